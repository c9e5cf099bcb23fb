pub mod Instructions
pub mod Unit
