pub mod Outputs
pub mod Parts
