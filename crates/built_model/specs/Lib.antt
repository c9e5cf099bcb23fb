pub mod Source
pub mod Laws
pub mod Follows
pub mod Chains
pub mod Context
pub mod Replay
pub mod Run
