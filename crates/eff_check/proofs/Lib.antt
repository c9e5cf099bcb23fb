pub mod Rising
pub mod WarningLaws
