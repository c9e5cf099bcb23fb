pub mod Starting
pub mod QualifierRules
pub mod Lists
