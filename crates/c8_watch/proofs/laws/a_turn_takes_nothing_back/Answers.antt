-- No packet that a turn hears takes a row back, and what the watcher says changes nothing.
use Rattle.std.proofs.Common.{sym, subst}
use Rattle.c8_spectator.specs.Growth.{IsStillWatched}
use Rattle.c8_spectator.specs.Watching.{WatchValue}
use Rattle.c8_watch.proofs.WatchLemmas.{still_watched}
use Rattle.c8_watch.proofs.laws.a_turn_takes_nothing_back.Goals as goal

pub returns : goal.returns
returns g c old new before after turn =
    subst (λ (w : WatchValue). IsStillWatched old w) (sym turn.hears.has)
    (still_watched c.what_is_heard_takes_nothing_back.ensures c.what_is_still_watched_chains.ensures.same
    c.what_is_still_watched_chains.ensures.more old turn.hears.given)
