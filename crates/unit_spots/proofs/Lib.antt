pub mod Types
pub mod Found
pub mod Compose
pub mod Order
pub mod Rows
