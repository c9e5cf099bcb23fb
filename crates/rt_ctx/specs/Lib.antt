pub mod Contexts
pub mod Frames
pub mod Places
pub mod Verdicts
pub mod Suppressing
