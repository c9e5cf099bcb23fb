pub mod Stacks
pub mod Prefixes
pub mod Passes
pub mod Counts
pub mod ReportText
