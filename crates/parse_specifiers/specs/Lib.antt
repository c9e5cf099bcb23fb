pub mod Parts
pub mod Nested
pub mod Specified
