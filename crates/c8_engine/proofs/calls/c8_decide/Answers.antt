-- The player found has the number that C gave, so the peer cuts just that leaver.
use Rattle.std.proofs.Common.{◌≡◌, ℕ, Some, subst, refl}
use Rattle.c8_peer.specs.Peer.{IsAnswered}
use Rattle.c8_peer.specs.State.{Decide, Decided}
use Rattle.c8_embed.specs.Journal.{disk}
use Rattle.c8_embed.specs.declared.any.Side.TheVariants as sides
use Rattle.c8_engine.proofs.calls.c8_decide.Goals as goal

pub returns-in-Player-clause-decided : goal.returns-in-Player-clause-decided
returns-in-Player-clause-decided c = λ from to plays.
    let here : c.args.handle.now.value ≡ Some (sides.Player c.in-Player.player) = search in
    let same : c.in-Some-new.leaver.number ≡ c.args.leaver = c.in-Some-new.ensures.some in
    rw here (
      (record {
        reply = c.decide.result;
        called = record {
          answered = subst (λ (n : ℕ). IsAnswered disk c.in-Player.player.engine.peer (Decide n) (Decided c.decide.result)
              c.decide.new.self.peer) same c.decide.ensures.answered;
          steps = c.decide.ensures.steps;
          depth = c.decide.ensures.depth;
          lead = c.decide.ensures.lead;
          news = c.decide.ensures.news;
        };
        code_is = c.decide_code.ensures;
      }),
      refl,
      refl,
      refl,
      refl,
    )
