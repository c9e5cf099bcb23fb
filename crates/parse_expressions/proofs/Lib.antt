pub mod Binaries
pub mod Chains
