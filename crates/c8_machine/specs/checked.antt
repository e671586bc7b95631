pub mod Decoding
pub mod DecodingLaws
pub mod FrameExists
