pub mod Steps
pub mod Memory
pub mod Words
pub mod Stages
pub mod Machine
pub mod Laws
