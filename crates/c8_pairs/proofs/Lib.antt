-- A run has one spelling in pairs, and its inputs are lent from these bytes, also from inside the first pair.
pub mod RunLemmas
