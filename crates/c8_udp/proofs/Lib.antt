-- Where a player is learnt to be follows from the counters of its packets, in whatever order they come; what a socket says to a
-- relay and hears from it, beside the datagrams.
pub mod ContactLemmas
pub mod RouteLemmas
