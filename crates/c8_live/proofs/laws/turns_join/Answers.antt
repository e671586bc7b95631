-- Turns count up from none, one after another: `game_worker` says by this how many it made.
use Rattle.std.proofs.Common.{refl}
use Rattle.c8_live.proofs.TurnLemmas.{turns_more}
use Rattle.c8_live.proofs.laws.turns_join.Goals as goal

pub returns-clause-none : goal.returns-clause-none
returns-clause-none g c p before = (refl, refl, refl)

pub returns-clause-more : goal.returns-clause-more
returns-clause-more g c n old middle new before between after turns turn =
    turns_more g.D.Disk g.W.Wire n old middle new before between after turns turn
