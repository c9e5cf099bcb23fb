pub mod Lefts
pub mod Passes
