pub mod Lives
pub mod Mirrors
pub mod Tallies
