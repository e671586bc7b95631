-- The new board shows the rows that the spectator has taken so far.
use Rattle.c8_watch.proofs.worker.open_watch_board.Given as goal

abbrev pub ghost-open_at : goal.ghost-open_at
ghost-open_at a = a._spectator.now.rows
