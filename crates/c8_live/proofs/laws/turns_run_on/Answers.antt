-- Hearing, ticking, dropping, cutting and saving are calls, so a turn is one run of its peer.
use Rattle.c8_live.proofs.TurnLemmas.{turn_ran}
use Rattle.c8_live.proofs.laws.turns_run_on.Goals as goal

pub returns : goal.returns
returns g c old new before after turn = turn_ran g.D.Disk g.W.Wire c.runs_join.ensures.run old new before after turn
