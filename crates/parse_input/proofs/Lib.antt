pub mod Steps
pub mod Choices
pub mod Then
pub mod Lists
mod Tables
