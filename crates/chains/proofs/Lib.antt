pub mod FirstStep
mod Nearer
mod Shown
mod Callers
mod Reach
mod Turns
mod Along
pub mod Growth
mod Spans
