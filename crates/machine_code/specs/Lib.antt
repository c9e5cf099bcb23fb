pub mod Bounds
pub mod Codes
pub mod Library
pub mod Taken
