pub mod Books
pub mod Locked
pub mod Places
