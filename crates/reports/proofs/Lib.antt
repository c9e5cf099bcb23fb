pub mod Remaining
pub mod LastStep
pub mod Sames
pub mod Orders
