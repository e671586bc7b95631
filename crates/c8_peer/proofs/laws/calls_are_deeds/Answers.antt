-- The answer tells what the disk did with the record, so a call that meets its contract is a deed; for c8_live, c8_rig.
use Rattle.c8_peer.proofs.RunLemmas.{answered_done, said_done}
use Rattle.c8_peer.proofs.laws.calls_are_deeds.Goals as goal

pub returns-clause-answered : goal.returns-clause-answered
returns-clause-answered g c = answered_done g.D.Disk

pub returns-clause-said : goal.returns-clause-said
returns-clause-said g c = said_done
