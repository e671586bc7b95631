-- The board's run begins before the first frame, and has the rows of its caller.
use Rattle.c8_watch.specs.Published.{beginning}
use Rattle.c8_watch.proofs.worker.open_at.Given as goal

abbrev pub ghost-open : goal.ghost-open
ghost-open g a = record { from = beginning a.game.now; rows = g.rows }
