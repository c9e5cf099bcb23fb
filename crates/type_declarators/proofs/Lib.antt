pub mod Adjusted
pub mod FirstPart
