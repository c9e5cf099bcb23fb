pub mod Number
pub mod Scope
