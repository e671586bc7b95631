pub mod Alone
pub mod Typing
pub mod Desk
pub mod Frames
pub mod Lead
pub mod checked
pub mod Answers
