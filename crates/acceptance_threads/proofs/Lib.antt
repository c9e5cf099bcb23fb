pub mod ReportsMade
