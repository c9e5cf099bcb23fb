pub mod Gathering
pub mod Marked
