pub mod Beginnings
pub mod Rule
pub mod Views
