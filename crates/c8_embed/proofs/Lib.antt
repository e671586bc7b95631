-- An engine that goes back to a step's first frame and runs its rows has the run; begin at `StepsLemmas`.
pub mod StepsLemmas
pub mod EngineLemmas
pub mod SayingLemmas
pub mod PacketLemmas
pub mod HeadLemmas
