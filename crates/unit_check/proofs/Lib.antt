pub mod Picks
pub mod Places
pub mod Told
pub mod Turns
