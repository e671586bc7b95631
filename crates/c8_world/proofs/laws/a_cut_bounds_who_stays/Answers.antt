-- Each stayer froze the leaver at no more inputs than the cut, and a frozen list grows at most up to the cut.
use Rattle.c8_world.proofs.Reached.{cut_bounds}
use Rattle.c8_world.proofs.laws.a_cut_bounds_who_stays.Goals as goal

pub returns : goal.returns
returns c = cut_bounds c.peers_are_lawful.ensures
