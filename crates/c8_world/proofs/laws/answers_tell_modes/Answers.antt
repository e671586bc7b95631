-- Each answer tells its player's mode after the event, and only a peer that is not open answers Down.
use Rattle.c8_world.proofs.ModeLemmas.{modes_told, down_told}
use Rattle.c8_world.proofs.laws.answers_tell_modes.Goals as goal

pub returns-clause-modes : goal.returns-clause-modes
returns-clause-modes c = modes_told c.peers_are_lawful.ensures

pub returns-clause-down : goal.returns-clause-down
returns-clause-down c = down_told c.peers_are_lawful.ensures
