pub mod NumberLaws
pub mod Read
pub mod WordLaws
pub mod RunLaws
pub mod CarriedLaws
pub mod GreatestLaws
