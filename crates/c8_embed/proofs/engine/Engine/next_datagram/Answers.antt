-- What is left of a turn is at most one datagram for each of its places.
use Rattle.std.proofs.Common.{◌≤◌, length, subst}
use Rattle.c8_session.specs.Due.{places_of_turn}
use Rattle.c8_embed.specs.Engine.{EngineValue}
use Rattle.c8_embed.proofs.SayingLemmas.{few_left}
use Rattle.c8_embed.proofs.engine.Engine.next_datagram.Goals as goal

pub returns-in-Some-clause-few : goal.returns-in-Some-clause-few
returns-in-Some-clause-few g c =
    subst (λ (e : EngineValue g.row.D.Denot). length e.left ≤ places_of_turn) c.self.view_is (few_left c.self.inside.session)
