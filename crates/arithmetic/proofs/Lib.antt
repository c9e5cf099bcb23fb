pub mod Converted
pub mod Moved
pub mod Shifts
pub mod Tried
