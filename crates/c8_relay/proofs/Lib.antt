-- What a relay sends was received, between two who asked for their seats, or answers a JOIN; begin at `HonestLemmas`.
mod BudgetLemmas
pub mod HonestLemmas
mod IndexLemmas
mod SameLemmas
mod SittingLemmas
mod StandingLemmas
