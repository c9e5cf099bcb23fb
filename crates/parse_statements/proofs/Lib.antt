pub mod Fors
pub mod Phrases
pub mod Shapes
