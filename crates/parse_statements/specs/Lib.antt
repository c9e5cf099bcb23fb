pub mod Nested
pub mod Forms
