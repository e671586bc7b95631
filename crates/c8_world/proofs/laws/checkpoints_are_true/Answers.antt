-- That a journal's checkpoints are true is part of the invariant of all journals; for `World::peer` and c8_audit.
use Rattle.c8_world.proofs.Reached.{checks_true}
use Rattle.c8_world.proofs.laws.checkpoints_are_true.Goals as goal

pub returns : goal.returns
returns c = checks_true c.peers_are_lawful.ensures
