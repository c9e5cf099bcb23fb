pub mod Follows
pub mod Emitted
pub mod Checks
pub mod Refusals
