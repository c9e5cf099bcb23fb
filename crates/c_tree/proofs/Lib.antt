pub mod Equations
pub mod StatementEquations
