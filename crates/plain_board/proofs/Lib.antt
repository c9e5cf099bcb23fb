pub mod Lists
pub mod Held
pub mod Fair
pub mod Keeping
pub mod Gathering
pub mod PassLaws
