pub mod Kinds
pub mod Defined
