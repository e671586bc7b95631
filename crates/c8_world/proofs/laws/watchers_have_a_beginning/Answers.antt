-- Each SHOW that was sent has confirmed rows of player 1, so a watcher's rows begin these and none differs.
use Rattle.c8_world.proofs.Reached.{rows_true}
use Rattle.c8_world.proofs.Answered.{never_differs_watched}
use Rattle.c8_world.proofs.laws.watchers_have_a_beginning.Goals as goal

pub returns-clause-rows : goal.returns-clause-rows
returns-clause-rows c = rows_true c.peers_are_lawful.ensures

pub returns-clause-differs : goal.returns-clause-differs
returns-clause-differs c = never_differs_watched c.peers_are_lawful.ensures
