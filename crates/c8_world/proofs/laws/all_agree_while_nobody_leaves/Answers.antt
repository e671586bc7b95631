-- Without a LEAVE no player is dropped, so what holds for undropped peers holds for all.
use Rattle.c8_world.proofs.Reached.{all_agree}
use Rattle.c8_world.proofs.Answered.{calm_differs, calm_desync}
use Rattle.c8_world.proofs.laws.all_agree_while_nobody_leaves.Goals as goal

pub returns-clause-rows : goal.returns-clause-rows
returns-clause-rows c = all_agree c.peers_are_lawful.ensures

pub returns-clause-inputs : goal.returns-clause-inputs
returns-clause-inputs c = calm_differs c.peers_are_lawful.ensures

pub returns-clause-machines : goal.returns-clause-machines
returns-clause-machines c = calm_desync c.peers_are_lawful.ensures
