pub mod Look
pub mod Chain
pub mod Measures
pub mod Queue
pub mod Follow
pub mod Written
