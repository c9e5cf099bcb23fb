pub mod Outside
pub mod Memory
pub mod InMemory
pub mod Reads
pub mod TakenBytes
pub mod Writes
