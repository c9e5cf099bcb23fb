pub mod Totals
pub mod RunText
