pub mod Calls
pub mod Lone
