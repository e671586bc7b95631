pub mod AsksLaws
pub mod AtOnceLaws
pub mod PastLaws
pub mod RunLaws
pub mod TornLaws
