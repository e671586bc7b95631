-- At a desk the keys that the bytes encode are entered, and what the peer shows is painted; begin at `FrameLemmas`.
pub mod TypingLemmas
pub mod DeskLemmas
pub mod FrameLemmas
pub mod LeadLemmas
pub mod SilentLemmas
