-- The deeds of one run and those of a next one are the deeds of a run; for the turns of c8_live.
use Rattle.c8_peer.proofs.RunLemmas.{joined, reached_more}
use Rattle.c8_peer.proofs.laws.runs_join.Goals as goal

pub returns-clause-run : goal.returns-clause-run
returns-clause-run c = joined

pub returns-clause-reached : goal.returns-clause-reached
returns-clause-reached c = reached_more
