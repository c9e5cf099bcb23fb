pub mod Placed
pub mod Spans
pub mod Standing
pub mod ExpressionsStand
pub mod StatementsStand
pub mod Law
