pub mod Declared
pub mod Defined
