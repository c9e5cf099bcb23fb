pub mod Nested
pub mod Parts
