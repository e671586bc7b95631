-- The board opens with the run that its caller names: a start, and the rows since.
use Rattle.c8_live.proofs.game.open_at.Given as goal

abbrev pub ghost-open : goal.ghost-open
ghost-open g a = g.run
