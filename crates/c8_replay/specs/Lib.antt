pub mod KeyText
pub mod Replay
