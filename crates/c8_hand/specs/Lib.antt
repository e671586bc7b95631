pub mod Errors
pub mod Links
pub mod Held
pub mod checked
