pub mod Lists
pub mod Counting
pub mod Exact
pub mod Mirroring
pub mod Fair
pub mod Walking
pub mod Tallied
