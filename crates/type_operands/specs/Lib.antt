pub mod Signs
pub mod Strings
pub mod Worths
