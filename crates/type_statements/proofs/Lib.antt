pub mod Parts
pub mod Files
pub mod Forms
pub mod Redefined
