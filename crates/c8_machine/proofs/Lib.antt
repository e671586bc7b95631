-- A machine has one frame for the keys that are down, and each of its parts keeps its range.
pub mod KeyLemmas
pub mod ChainLemmas
pub mod MemoryLemmas
pub mod FrameLemmas
pub mod SerialLemmas
pub mod StateLemmas
