-- New rows come behind the old ones, and a refused packet changes nothing; for the turns of c8_watch.
use Rattle.c8_spectator.specs.checked.WatchLaws.{still_heard}
use Rattle.c8_spectator.proofs.laws.what_is_heard_takes_nothing_back.Goals as goal

pub returns : goal.returns
returns c = still_heard
