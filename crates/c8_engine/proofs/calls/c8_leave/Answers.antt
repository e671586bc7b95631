-- The player found has the number that C gave, so the peer drops just that player.
use Rattle.std.proofs.Common.{◌≡◌, ℕ, Some, subst, refl}
use Rattle.c8_peer.specs.Peer.{IsAnswered}
use Rattle.c8_peer.specs.State.{Leave, Left}
use Rattle.c8_embed.specs.Journal.{disk}
use Rattle.c8_embed.specs.declared.any.Side.TheVariants as sides
use Rattle.c8_engine.proofs.calls.c8_leave.Goals as goal

pub returns-in-Player-clause-left : goal.returns-in-Player-clause-left
returns-in-Player-clause-left c = λ from to plays.
    let here : c.args.handle.now.value ≡ Some (sides.Player c.in-Player.player) = search in
    let same : c.in-Some-new.leaver.number ≡ c.args.leaver = c.in-Some-new.ensures.some in
    rw here (
      (record {
        reply = c.leave.result;
        called = record {
          answered = subst (λ (n : ℕ). IsAnswered disk c.in-Player.player.engine.peer (Leave n) (Left c.leave.result)
              c.leave.new.self.peer) same c.leave.ensures.answered;
          steps = c.leave.ensures.steps;
          depth = c.leave.ensures.depth;
          lead = c.leave.ensures.lead;
          news = c.leave.ensures.news;
        };
        code_is = c.leave_code.ensures;
      }),
      refl,
      refl,
      refl,
      refl,
    )
