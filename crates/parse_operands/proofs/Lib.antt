pub mod Postfixes
pub mod Prefixes
pub mod Primaries
