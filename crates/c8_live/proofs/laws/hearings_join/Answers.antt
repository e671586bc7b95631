-- Packets heard one after another are heard together, and their bounds add up.
use Rattle.c8_live.proofs.TurnLemmas.{heard_none, heard_given, heard_joined}
use Rattle.c8_live.proofs.OwedLemmas.{noted_silent, noted_once, noted_joined}
use Rattle.c8_live.proofs.laws.hearings_join.Goals as goal

pub returns-clause-silent : goal.returns-clause-silent
returns-clause-silent g c p before after received sent = heard_none g.D.Disk g.W.Wire p before after received sent

pub returns-clause-once : goal.returns-clause-once
returns-clause-once g c old new before after bytes heard received sent = heard_given g.D.Disk g.W.Wire old new before after bytes heard received sent

pub returns-clause-joined : goal.returns-clause-joined
returns-clause-joined g c most more first middle last before between after one two =
    heard_joined g.D.Disk g.W.Wire c.runs_join.ensures.run most more first middle last before between after one two

pub returns-clause-noted_silent : goal.returns-clause-noted_silent
returns-clause-noted_silent g c p notes before after received sent = noted_silent g.D.Disk g.W.Wire p notes before after received sent

pub returns-clause-noted_once : goal.returns-clause-noted_once
returns-clause-noted_once g c old new notes now before after bytes is received sent =
    noted_once g.D.Disk g.W.Wire old new notes now before after bytes is received sent

pub returns-clause-noted_joined : goal.returns-clause-noted_joined
returns-clause-noted_joined g c most more first middle last notes later now before between after one two =
    noted_joined g.D.Disk g.W.Wire c.runs_join.ensures.run most more first middle last notes later now before between after one two
