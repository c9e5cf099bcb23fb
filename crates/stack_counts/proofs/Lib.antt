pub mod Bits
pub mod Ordered
pub mod Sums
