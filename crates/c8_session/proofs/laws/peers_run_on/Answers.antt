-- A run of a peer goes on by a call, by a turn or by another run; the joined parts stay visible.
use Rattle.c8_session.specs.checked.Joins.{still, joined, once, stopped_after, turned_ran}
use Rattle.c8_session.proofs.laws.peers_run_on.Goals as goal

pub returns-clause-still : goal.returns-clause-still
returns-clause-still g c p = still g.D.Disk p

pub returns-clause-call : goal.returns-clause-call
returns-clause-call g c first old new call reply ran is answered =
    joined g.D.Disk c.runs_join.ensures.run first old new ran
    (once g.D.Disk old new call reply answered (c.calls_are_deeds.ensures.answered old new call reply is answered))

pub returns-clause-turned : goal.returns-clause-turned
returns-clause-turned g c old new turned = turned_ran g.D.Disk c.runs_join.ensures.run old new turned

pub returns-clause-joined : goal.returns-clause-joined
returns-clause-joined g c first middle last one two = joined g.D.Disk c.runs_join.ensures.run first middle last one two

pub returns-clause-stopped : goal.returns-clause-stopped
returns-clause-stopped g c first middle last why ran end = stopped_after g.D.Disk c.runs_join.ensures.run first middle last why ran end
