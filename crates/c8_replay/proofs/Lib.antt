-- The first confirmed rows are shown: the machine of their serial run, or key lines that spell them.
pub mod KeyTextLemmas
pub mod OutcomeLemmas
