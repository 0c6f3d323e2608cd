pub mod Floors
pub mod Writing
pub mod Reading
pub mod MaskingCode
pub mod Refusals
pub mod Unread
pub mod Shifts
pub mod Unwritten
