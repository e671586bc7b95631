pub mod State
pub mod Parts
pub mod Instructions
pub mod Steps
pub mod Frames
pub mod Serial
pub mod checked
