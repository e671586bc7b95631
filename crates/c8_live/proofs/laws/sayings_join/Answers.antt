-- Saying changes no peer, so what a wire took of several sayings is what it took of each, in order.
use Rattle.c8_live.proofs.TurnLemmas.{spoken_still, spoken_once, spoken_joined}
use Rattle.c8_live.proofs.OwedLemmas.{said_none, said_once, said_joined}
use Rattle.c8_live.proofs.laws.sayings_join.Goals as goal

pub returns-clause-silent : goal.returns-clause-silent
returns-clause-silent g c p before after same received = spoken_still g.D.Disk g.W.Wire p before after same received

pub returns-clause-once : goal.returns-clause-once
returns-clause-once g c p before after call bytes may speaks is takes received =
    spoken_once g.D.Disk g.W.Wire p before after call bytes speaks is (c.calls_are_deeds.ensures.said p call bytes may is) takes received

pub returns-clause-joined : goal.returns-clause-joined
returns-clause-joined g c p before between after one two = spoken_joined g.D.Disk g.W.Wire c.runs_join.ensures.run p before between after one two

pub returns-clause-said_none : goal.returns-clause-said_none
returns-clause-said_none g c p before after same received = said_none g.D.Disk g.W.Wire p before after same received

pub returns-clause-said_once : goal.returns-clause-said_once
returns-clause-said_once g c p before after call bytes may speaks is takes received =
    said_once g.D.Disk g.W.Wire p before after call bytes speaks is (c.calls_are_deeds.ensures.said p call bytes may is) takes received

pub returns-clause-said_joined : goal.returns-clause-said_joined
returns-clause-said_joined g c p calls more before between after one two =
    said_joined g.D.Disk g.W.Wire c.runs_join.ensures.run p calls more before between after one two
