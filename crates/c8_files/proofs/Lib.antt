-- The lines of a match card.
-- The text written spells the game that is asked for, and one fault refuses it if any does; begin at `GameLemmas`.
pub mod BlockLemmas
pub mod CardLemmas
pub mod FieldLemmas
pub mod GameLemmas
pub mod KeyLemmas
pub mod ValueLemmas
