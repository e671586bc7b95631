-- That a match can go on to its end; begin at `Ending`, and `Rounds`.
pub mod Ending
pub mod Meeting
pub mod Exchange
pub mod Rounds
pub mod Watching
