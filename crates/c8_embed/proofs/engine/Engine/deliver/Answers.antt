-- A delivery leaves true what the engine was given; it is no longer up to date.
use Rattle.std.proofs.Common.{subst}
use Rattle.c8_wire.specs.checked.Read.{read}
use Rattle.c8_peer.specs.State.{Deliver, Delivered}
use Rattle.c8_embed.specs.Engine.{EngineValue, HasHeardAt}
use Rattle.c8_embed.proofs.EngineLemmas.{engine_after}
use Rattle.c8_embed.proofs.engine.Engine.deliver.Goals as goal

pub invariant_of-self : goal.invariant_of-self
invariant_of-self g c =
    let old = c.self.inside.session.peer in
    let new = c.deliver-answer.new.self.peer in
    let call = Deliver (read c.args.bytes.now) in
    let is = c.deliveries_are_calls.ensures c.args.bytes.now (λ i. (c.type_inv.bytes i).fits) in
    let reply = Delivered c.deliver-answer.result in
    let steps = c.self.inside.steps in
    engine_after g.D.Disk old new call reply steps c.self.inside.is_told c.deliver-answer.ensures.answered
    (c.what_was_given_stays.ensures.call old new call reply steps c.is_sound.ensures is c.deliver-answer.ensures.answered) c.self.invariant

pub returns-clause-news : goal.returns-clause-news
returns-clause-news g c =
    let told = read c.args.bytes.now in
    subst (λ (e : EngineValue g.row.D.Denot). HasHeardAt c.deliver-answer.new.self.peer told c.deliver-answer.result e.news c.hear.new.self)
    c.self.view_is (c.look.new.self, (c.is_over.result, c.look.ensures, c.is_over.ensures), c.hear.ensures)
