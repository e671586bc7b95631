pub mod Journal
pub mod Known
pub mod Confirmed
pub mod Growth
pub mod Errors
pub mod Tables
pub mod Fresh
pub mod checked
