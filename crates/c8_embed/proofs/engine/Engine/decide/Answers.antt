-- A cut leaves true what the engine was given; it is no longer up to date.
use Rattle.c8_peer.specs.Lawful.{IsCall}
use Rattle.c8_peer.specs.State.{Decide, Decided}
use Rattle.c8_embed.proofs.EngineLemmas.{engine_after}
use Rattle.c8_embed.proofs.engine.Engine.decide.Goals as goal

pub invariant_of-self : goal.invariant_of-self
invariant_of-self g c =
    let old = c.self.inside.session.peer in
    let new = c.decide-answer.new.self.peer in
    let is : IsCall (Decide c.args.leaver.number) = tt in
    let call = Decide c.args.leaver.number in
    let reply = Decided c.decide-answer.result in
    let steps = c.self.inside.steps in
    engine_after g.D.Disk old new call reply steps c.self.inside.is_told c.decide-answer.ensures.answered
    (c.what_was_given_stays.ensures.call old new call reply steps c.is_sound.ensures is c.decide-answer.ensures.answered) c.self.invariant
