pub mod Decimals
pub mod Separated
pub mod Collected
pub mod Numbered
