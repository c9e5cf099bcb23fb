pub mod Defining
pub mod Read
