pub mod Comparison
pub mod Conversion
pub mod Effects
pub mod Laws
pub mod Types
