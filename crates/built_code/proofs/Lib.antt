pub mod Parking
pub mod Counting
