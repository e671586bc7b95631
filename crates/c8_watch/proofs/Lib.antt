-- A watcher's rows only grow, and unless a SHOW is forged they begin player 1's; begin at `WatchLemmas`.
pub mod ShownLemmas
pub mod WatchLemmas
-- A match that was watched ends with the serial run of the rows that were taken, or with a refusal.
pub mod WatchedLemmas
