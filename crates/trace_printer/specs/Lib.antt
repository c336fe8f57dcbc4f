pub mod Output
pub mod Page
pub mod Parts
pub mod PrintErrors
pub mod ReportText
pub mod TraceLines
pub mod Words
pub mod Writes
