pub mod Kinds
pub mod Offers
