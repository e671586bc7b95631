-- Counter and tag have fixed sizes, so a packet is the sealing of at most one counter and one datagram.
pub mod SealLemmas
-- Of the packets sealed for its seat a sealer takes each counter of a sender at most once; begin at `SeenLemmas`.
pub mod SealedLemmas
pub mod SealerLemmas
pub mod SeenLemmas
pub mod WireLemmas
