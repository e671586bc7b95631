pub mod StateBytes
pub mod Reading
pub mod Marks
pub mod Origin
pub mod checked
