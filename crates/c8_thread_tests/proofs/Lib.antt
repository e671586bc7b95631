-- An entry at the end of an ether's entries belongs to that ether, so a test may draw with it.
pub mod Entries
-- Rows without keys are the beginning of more such rows, which are all that a `Publisher` publishes.
mod Idle
