pub mod Allowed
pub mod Copying
