-- A window lends each player the own inputs that it has not acknowledged; the counts themselves need no lemma.
pub mod PendingLemmas
