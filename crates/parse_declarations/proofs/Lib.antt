pub mod Declares
pub mod Gathered
pub mod Initials
pub mod Scopes
