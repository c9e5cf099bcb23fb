pub mod Casts
pub mod Forms
pub mod KindEquations
pub mod StringBytes
pub mod WorthLaws
