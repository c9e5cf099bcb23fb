pub mod Weighs
pub mod LockRule
pub mod Seats
