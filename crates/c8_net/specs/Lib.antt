pub mod Errors
pub mod Match
pub mod Answers
