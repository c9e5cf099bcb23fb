pub mod KindEffects
pub mod Sums
pub mod Unions
pub mod Words
