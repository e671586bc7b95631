-- The chunks of a cast stay those of its rows: as rows come, and with one chunk more.
pub mod ChunkLemmas
