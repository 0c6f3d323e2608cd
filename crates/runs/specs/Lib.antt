pub mod Told
pub mod Lived
