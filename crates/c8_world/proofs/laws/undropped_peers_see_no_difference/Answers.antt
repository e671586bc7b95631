-- A run that was sent is part of what its player entered, and an undropped sender's mark is of the same rows.
use Rattle.c8_world.proofs.Answered.{never_differs, never_desync}
use Rattle.c8_world.proofs.laws.undropped_peers_see_no_difference.Goals as goal

pub returns-clause-inputs : goal.returns-clause-inputs
returns-clause-inputs c = never_differs c.peers_are_lawful.ensures

pub returns-clause-machines : goal.returns-clause-machines
returns-clause-machines c = never_desync c.peers_are_lawful.ensures
