pub mod Continued
pub mod Orders
pub mod Forms
pub mod Declared
