pub mod Words
pub mod Laws
pub mod Calls
pub mod Bare
pub mod BareLaws
pub mod Cells
pub mod Differences
