pub mod Connections
pub mod Frames
pub mod Parts
pub mod Paths
pub mod Replies
pub mod Requests
pub mod Sites
pub mod Steps
