pub mod Climbing
pub mod Nodes
