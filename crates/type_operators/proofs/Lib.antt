pub mod Sames
pub mod Shared
