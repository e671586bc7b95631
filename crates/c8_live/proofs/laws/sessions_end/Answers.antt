-- What ends a session after the second part of a run ends it after both; a failed wire tells nothing.
use Rattle.c8_live.proofs.RunLemmas.{ended}
use Rattle.c8_live.proofs.laws.sessions_end.Goals as goal

pub returns : goal.returns
returns g c first middle last error ran end = ended g.D.Disk c.peers_run_on.ensures.stopped first middle last error ran end
