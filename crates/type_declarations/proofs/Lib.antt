pub mod Completed
pub mod Further
pub mod Ordered
pub mod Scoped
