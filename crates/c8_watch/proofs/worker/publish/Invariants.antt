-- What is published is all rows that the spectator has taken.
use Rattle.c8_watch.proofs.worker.publish.Given as goal

abbrev pub ghost-show : goal.ghost-show
ghost-show a = a._spectator.now.rows
