-- A script has the events that its lines spell, and what is printed are the answers of a world; begin at `ScriptLines`.
pub mod DecimalLemmas
pub mod PrintLemmas
pub mod ScriptLemmas
pub mod ScriptLines
pub mod TranscriptLemmas
pub mod FaultyLines
