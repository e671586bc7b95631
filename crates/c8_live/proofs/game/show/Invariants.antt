-- The pen notes the rows on which the shown machine ran.
use Rattle.c8_live.proofs.game.show.Given as goal

abbrev pub ghost-publish : goal.ghost-publish
ghost-publish g a = g.rows
