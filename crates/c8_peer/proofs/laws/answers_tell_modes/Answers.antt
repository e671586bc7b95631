-- After a call an open peer is down if the answer blames the disk, else open; after an opening it is open or away.
use Rattle.c8_peer.proofs.PlainLemmas.{step_tells, opened_tells}
use Rattle.c8_peer.proofs.laws.answers_tell_modes.Goals as goal

pub returns-clause-calls : goal.returns-clause-calls
returns-clause-calls c = step_tells

pub returns-clause-openings : goal.returns-clause-openings
returns-clause-openings c = opened_tells
