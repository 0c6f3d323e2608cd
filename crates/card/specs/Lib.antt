pub mod Refusals
pub mod Cells
pub mod Words
pub mod History
pub mod Making
pub mod Lending
