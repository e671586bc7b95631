pub mod Points
pub mod checked
