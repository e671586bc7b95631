pub mod Lines
pub mod Audited
pub mod PrintedJson
pub mod PrintedReport
pub mod Matches
pub mod Summary
pub mod Counted
