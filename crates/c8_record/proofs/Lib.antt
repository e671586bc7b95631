-- A replay takes a journal's bodies as their records, or refuses the first bad one; begin with TakenLemmas.
pub mod TakenLemmas
pub mod ReplayLemmas
mod WindowLemmas
-- Each record of a checkpoint changes what is kept as the definitions say; begin at `piece_taken` and `whole_noted`.
pub mod CheckLemmas
