pub mod WarningText
