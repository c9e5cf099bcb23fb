pub mod Numbers
pub mod Operations
pub mod Operators
pub mod Pointers
pub mod Values
