pub mod Named
pub mod Nested
pub mod Nodes
pub mod Parts
