pub mod Functions
pub mod UnderWay
