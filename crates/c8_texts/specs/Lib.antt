pub mod Errors
pub mod KeyLines
pub mod KeySets
pub mod Report
pub mod Run
pub mod ShowErrors
pub mod Shown
pub mod checked
