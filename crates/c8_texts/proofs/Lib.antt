-- Key lines are played up to the first fault, and a report begins with its frames and ends with its screen.
pub mod KeyLineLemmas
pub mod ReportLemmas
