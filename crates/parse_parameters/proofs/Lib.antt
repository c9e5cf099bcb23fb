pub mod Lines
pub mod Nesting
pub mod Listing
