-- A match is a journal that was opened and a peer that ran on, and its machine is the run of its confirmed rows.
pub mod PlayLemmas
pub mod OutcomeLemmas
