-- A turn leaves true what the engine was given; it is no longer up to date. It owes what its session does.
use Rattle.c8_embed.proofs.EngineLemmas.{engine_ran}
use Rattle.c8_embed.proofs.SayingLemmas.{owed}
use Rattle.c8_embed.proofs.engine.Engine.turn.Goals as goal

pub invariant_of-self : goal.invariant_of-self
invariant_of-self g c =
    let old = c.self.inside.session.peer in
    let new = c.make_turn-answer.new.session.peer in
    let ran = c.peers_run_on.ensures.turned old new c.make_turn-answer.ensures.turned in
    engine_ran g.D.Disk old new c.self.inside.steps c.self.inside.is_told ran
    (c.what_was_given_stays.ensures.ran old new c.self.inside.steps c.is_sound.ensures ran) c.self.invariant

pub returns-clause-due : goal.returns-clause-due
returns-clause-due g c = owed c.make_turn-answer.result c.make_turn-answer.new.session c.make_turn-answer.ensures.due
