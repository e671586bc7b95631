pub mod Hindmost
