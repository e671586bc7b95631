-- Undropped peers hold beginnings of the same lists, ended by the same cuts, so their rows agree; for c8_audit.
use Rattle.c8_world.proofs.Reached.{peers_agree}
use Rattle.c8_world.proofs.laws.undropped_peers_agree.Goals as goal

pub returns : goal.returns
returns c = peers_agree c.peers_are_lawful.ensures
