pub mod Continued
pub mod FixedForms
pub mod Holding
pub mod Levels
pub mod ListForms
pub mod ObjectForms
pub mod WordForms
