-- Whatever the threads do, their log is a run of a world with their peers; begin at `Logs` and `Rigging`.
pub mod Silent
pub mod Logs
pub mod Growth
pub mod Moves
pub mod TokenMoves
pub mod Openings
pub mod Playing
pub mod Parts
pub mod Agreeing
pub mod Rigging
