pub mod Opening
pub mod Counted
pub mod UnderWay
pub mod Runner
