pub mod Status
pub mod Texts
