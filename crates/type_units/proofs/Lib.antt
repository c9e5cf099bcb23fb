pub mod CallSites
pub mod Endings
pub mod Initials
pub mod Lawful
pub mod Order
pub mod Reserved
