-- A leaver is cut only after all who stay have answered; begin at `ready_answered` and `report_is`.
pub mod RoundLemmas
