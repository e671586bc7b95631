-- The engine looks at its session first, so the event is the oldest after that look.
use Rattle.std.proofs.Common.{subst}
use Rattle.c8_embed.specs.Engine.{EngineValue, HasToldAt}
use Rattle.c8_embed.proofs.engine.Engine.next_event.Goals as goal

pub returns-clause-told : goal.returns-clause-told
returns-clause-told g c =
    subst (λ (e : EngineValue g.row.D.Denot). HasToldAt c.self.inside.session.peer e.news c.tell.result c.tell.new.self)
    c.self.view_is (c.look.new.self, (c.is_over.result, c.look.ensures, c.is_over.ensures), c.tell.ensures)
