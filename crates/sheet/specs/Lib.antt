pub mod Refusals
pub mod Fields
pub mod Verbs
pub mod Parsing
pub mod Steps
pub mod Cutting
pub mod Readings
