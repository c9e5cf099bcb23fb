pub mod Determined
pub mod OneRun
