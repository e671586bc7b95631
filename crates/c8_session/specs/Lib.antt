pub mod Rest
pub mod Notes
pub mod Due
pub mod Showing
pub mod Runs
pub mod Turns
pub mod checked
