-- The pen notes the rows of which the shown machine is the serial run.
use Rattle.c8_watch.proofs.worker.show.Given as goal

abbrev pub ghost-publish : goal.ghost-publish
ghost-publish g a = g.rows
