pub mod Answers
pub mod Ending
pub mod Reserved
pub mod Sites
pub mod Words
