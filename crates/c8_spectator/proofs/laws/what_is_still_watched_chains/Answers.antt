-- From one datagram to the next the match and the seat stay and rows only come, so over many too; for c8_watch.
use Rattle.c8_spectator.specs.checked.WatchLaws.{still_same, still_more}
use Rattle.c8_spectator.proofs.laws.what_is_still_watched_chains.Goals as goal

pub returns-clause-same : goal.returns-clause-same
returns-clause-same c = still_same

pub returns-clause-more : goal.returns-clause-more
returns-clause-more c = still_more
