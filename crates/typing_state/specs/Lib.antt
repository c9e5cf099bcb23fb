pub mod Answers
pub mod Functions
pub mod Variables
