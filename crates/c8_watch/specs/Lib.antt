pub mod Turns
pub mod Published
pub mod Shown
pub mod Watched
