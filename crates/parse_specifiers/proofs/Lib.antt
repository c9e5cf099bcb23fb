pub mod Attributed
pub mod Specifying
pub mod Enumerating
