pub mod Read
pub mod Parts
pub mod DigestLaws
pub mod OriginLaws
