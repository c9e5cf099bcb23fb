pub mod Pointing
pub mod Directs
pub mod Grouping
