pub mod Form
pub mod Built
pub mod Reading
