-- Without a turn nothing changes, and a turn after others is one more: `watch_worker` counts its turns so.
use Rattle.std.proofs.Common.{refl}
use Rattle.c8_watch.proofs.WatchLemmas.{turns_more}
use Rattle.c8_watch.proofs.laws.turns_join.Goals as goal

pub returns-clause-none : goal.returns-clause-none
returns-clause-none g c w wire = (refl, refl, refl)

pub returns-clause-more : goal.returns-clause-more
returns-clause-more g c n first middle last before between after turns turn = turns_more g.W.Wire n first middle last before between after turns turn
