-- Pending records fit, so the journals that reads of the disks find are sound together too, and agree; for c8_rig.
use Rattle.c8_world.proofs.Reached.{reads_agree}
use Rattle.c8_world.proofs.laws.what_disks_give_agrees.Goals as goal

pub returns : goal.returns
returns c = reads_agree c.peers_are_lawful.ensures
