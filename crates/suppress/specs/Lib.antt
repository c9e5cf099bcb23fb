pub mod Occurrence
pub mod Layout
pub mod Pattern
pub mod Suppressions
pub mod Lines
pub mod Meaning
pub mod File
pub mod Line
