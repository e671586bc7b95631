pub mod Log
pub mod Tokens
pub mod Players
pub mod Gathered
pub mod Rigged
pub mod checked
