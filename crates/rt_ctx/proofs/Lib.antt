pub mod ContextLaws
pub mod Suppressing
