pub mod Nested
pub mod Scoped
