pub mod Watching
pub mod Growth
pub mod Errors
pub mod checked
