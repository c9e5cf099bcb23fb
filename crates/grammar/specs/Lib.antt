pub mod Parts
pub mod Reading
pub mod Parser
pub mod LL1
pub mod Example
