-- Only a HEAD or EPOCH sets where the machine begins, and no call records one; for c8_live.
use Rattle.c8_peer.proofs.BegunLemmas.{run_begins}
use Rattle.c8_peer.proofs.laws.a_machine_begins_at_an_opening.Goals as goal

pub returns : goal.returns
returns c = run_begins
