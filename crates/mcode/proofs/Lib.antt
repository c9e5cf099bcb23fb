pub mod Unpacking
pub mod TriedMachine
pub mod Serving
pub mod Unanswered
