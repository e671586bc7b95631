-- A leaver that may be cut has a LEAVE, and player 1 holds what each stayer answered to hold; for c8_world.
use Rattle.c8_round.proofs.RoundLemmas.{ready_leaves, ready_answered}
use Rattle.c8_round.proofs.laws.ready_means_all_have_answered.Goals as goal

pub returns-clause-leaves : goal.returns-clause-leaves
returns-clause-leaves c = ready_leaves

pub returns-clause-answered : goal.returns-clause-answered
returns-clause-answered c = ready_answered
