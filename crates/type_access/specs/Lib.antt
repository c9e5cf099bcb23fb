pub mod Structures
