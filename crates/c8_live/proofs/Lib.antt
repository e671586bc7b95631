-- A turn of a session is a run of its peer's calls in a fixed order; begin at `RunLemmas`, then `TurnLemmas`.
pub mod EnteredLemmas
pub mod PartLemmas
pub mod RunLemmas
pub mod TurnLemmas
pub mod OwedLemmas
-- Each step of the pen or a viewer keeps what ties the shared words to the published rows; begin with Moves.
pub mod WordLemmas
pub mod Moves
pub mod TokenMoves
