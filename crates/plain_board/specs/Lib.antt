pub mod Counting
pub mod Gathered
pub mod Passes
