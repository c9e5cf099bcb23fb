pub mod Lawful
pub mod Stacks
