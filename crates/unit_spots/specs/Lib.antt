pub mod Spots
pub mod Walk
