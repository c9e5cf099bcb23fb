pub mod Blocked
pub mod Definitions
pub mod Picks
