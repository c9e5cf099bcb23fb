pub mod Walks
pub mod Lives
