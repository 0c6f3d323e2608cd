pub mod Rows
pub mod Refusals
pub mod Told
pub mod Telling
pub mod Turns
pub mod Serving
pub mod Listing
pub mod Sheets
