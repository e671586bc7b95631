-- Any two moments of a match agree: `Journals` has the invariant, `Worlds` keeps it, `Moments` draws agreement from it.
pub mod Journals
pub mod Moments
pub mod Records
pub mod Events
pub mod Worlds
pub mod Reached
pub mod Openings
pub mod Calm
pub mod Replies
pub mod Answered
pub mod Runs
pub mod Matches
mod NodeLemmas
mod TableLemmas
mod SpokenLemmas
mod WatcherLemmas
mod OpenedLemmas
mod StopLemmas
mod LifeLemmas
mod DiskLemmas
mod TurnLemmas
mod ModeLemmas
mod EndLemmas
