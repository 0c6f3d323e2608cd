pub mod Lines
pub mod Choices
pub mod Making
pub mod Ledgers
pub mod Turns
pub mod Listings
