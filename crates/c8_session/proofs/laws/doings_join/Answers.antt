-- No call, one call, and one run after another: runs of one kind, of which the parts of a turn consist.
use Rattle.std.proofs.Common.{refl}
use Rattle.c8_session.specs.checked.Joins.{called_still, called_once, called_joined}
use Rattle.c8_session.proofs.laws.doings_join.Goals as goal

pub returns-clause-still : goal.returns-clause-still
returns-clause-still g c what p = called_still g.D.Disk what p

pub returns-clause-once : goal.returns-clause-once
returns-clause-once g c old new call reply is answered =
    (called_once g.D.Disk old new call reply answered (c.calls_are_deeds.ensures.answered old new call reply is answered), refl)

pub returns-clause-joined : goal.returns-clause-joined
returns-clause-joined g c what first middle last one two = called_joined g.D.Disk c.runs_join.ensures.run what first middle last one two
