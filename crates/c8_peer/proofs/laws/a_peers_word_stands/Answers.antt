-- A run from before the first opening is lawful and its journal only grows, so what was said stays true; for c8_live.
use Rattle.c8_peer.specs.Runs.{never_opened}
use Rattle.c8_peer.proofs.RunLemmas.{reached_journal, run_grows, said_stands, run_confirms, run_keeps_rows, never_lawful, never_tells}
use Rattle.c8_peer.proofs.RunLemmas.{reached_tells, reached_lawful}
use Rattle.c8_peer.proofs.laws.a_peers_word_stands.Goals as goal

pub returns-clause-journal : goal.returns-clause-journal
returns-clause-journal c = reached_journal

pub returns-clause-grows : goal.returns-clause-grows
returns-clause-grows c = run_grows

pub returns-clause-said : goal.returns-clause-said
returns-clause-said c = λ rules room me s deeds answers packet range from to low. said_stands rules room me never_opened s deeds answers
    packet range from to low (never_lawful rules room me) (λ carries. never_tells rules me)

pub returns-clause-checks : goal.returns-clause-checks
returns-clause-checks c = reached_tells

pub returns-clause-confirmed : goal.returns-clause-confirmed
returns-clause-confirmed c = λ rules room me s t deeds answers range from to low reached.
    run_confirms rules room me s t deeds answers range from to low (reached_lawful rules room me s range from to low reached)

pub returns-clause-rows : goal.returns-clause-rows
returns-clause-rows c = λ rules room me n s t deeds answers range from to low reached.
    run_keeps_rows rules room me n s t deeds answers range from to low (reached_lawful rules room me s range from to low reached)
