-- What a watcher hears is counted packet by packet, whatever the packets spell: `hear` adds them up.
use Rattle.c8_watch.proofs.WatchLemmas.{heard_none, heard_more, heard_still, heard_fewer}
use Rattle.c8_watch.proofs.laws.hearings_join.Goals as goal

pub returns-clause-none : goal.returns-clause-none
returns-clause-none g c w wire = heard_none g.W.Wire w wire

pub returns-clause-more : goal.returns-clause-more
returns-clause-more g c most first middle before between after bytes heard received sent =
    heard_more g.W.Wire most first middle before between after bytes heard received sent

pub returns-clause-still : goal.returns-clause-still
returns-clause-still g c most first last before between after heard received sent =
    heard_still g.W.Wire most first last before between after heard received sent

pub returns-clause-fewer : goal.returns-clause-fewer
returns-clause-fewer g c few most first last before after within heard = heard_fewer g.W.Wire few most first last before after within heard
