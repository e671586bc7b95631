-- A SHOW that reaches beyond the last frame is refused, so a watcher never has more rows than there are frames.
use Rattle.c8_spectator.specs.checked.WatchLaws.{within_heard}
use Rattle.c8_spectator.proofs.laws.rows_stay_within_the_game.Goals as goal

pub returns : goal.returns
returns c = within_heard
