pub mod Findings
pub mod Kept
pub mod Lists
pub mod Verdicts
