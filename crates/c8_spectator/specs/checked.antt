pub mod Held
pub mod WatchLaws
