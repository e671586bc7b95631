-- A state reads back from its 4419 bytes, and the marks that are kept from theirs; begin with StateLemmas.
pub mod ScreenLemmas
pub mod MarkLemmas
pub mod StackLemmas
pub mod StateLemmas
pub mod LengthLemmas
pub mod SameLemmas
pub mod ReadLemmas
pub mod MarkBytesLemmas
