-- The rules allow the HEAD or next EPOCH, and what the peer begins with there is in order and true; for c8_world.
use Rattle.c8_peer.proofs.OpeningLemmas.{opening_allowed, opening_memory, opening_stays}
use Rattle.c8_peer.proofs.laws.openings_are_lawful.Goals as goal

pub returns-clause-keeps : goal.returns-clause-keeps
returns-clause-keeps c = opening_allowed

pub returns-clause-memory : goal.returns-clause-memory
returns-clause-memory c = opening_memory

pub returns-clause-checks : goal.returns-clause-checks
returns-clause-checks c = opening_stays
