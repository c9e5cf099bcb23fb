pub mod Contents
pub mod Pieces
pub mod Faults
pub mod Counts
pub mod ReadChain
pub mod WriteChain
