mod Near
mod ByLines
mod Loops
mod Rows
pub mod Correcting
mod Completing
mod Fields
