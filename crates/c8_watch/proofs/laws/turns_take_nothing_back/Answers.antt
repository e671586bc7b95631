-- Turn by turn no row is taken back, so no number of turns does.
use Rattle.c8_watch.proofs.WatchLemmas.{still_after_turns}
use Rattle.c8_watch.proofs.laws.turns_take_nothing_back.Goals as goal

pub returns : goal.returns
returns g c n first last before after are =
    still_after_turns g.W.Wire c.a_turn_takes_nothing_back.ensures c.what_is_still_watched_chains.ensures.same
    c.what_is_still_watched_chains.ensures.more n first last before after are
