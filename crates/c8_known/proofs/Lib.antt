-- The code's tables are what a journal makes known; the least reach, at most the ticks, is what is confirmed.
pub mod ListLemmas
pub mod TableLemmas
pub mod ReachLemmas
pub mod StartLemmas
