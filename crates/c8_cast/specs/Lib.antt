pub mod Spelling
pub mod Cast
