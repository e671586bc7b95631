-- A watcher's first sealer has the keys of the secrets, the own seat, and the counters of the time at which it began.
use Rattle.std.proofs.Common.{◌≡◌, ◌∙◌, true, false, Option, None, Some, subst, sym, refl}
use Rattle.std.specs.Option.{is_some}
use Rattle.c8_transport.specs.Sealer.{SealerValue}
use Rattle.c8_embed.specs.Watch.{IsFirstSealer}
use Rattle.c8_embed.proofs.watch.WatchEndpoint.seal_with.Goals as goal

is_none : {A : Type 0} (o : Option A) → is_some o ≡ false → o ≡ None
is_none None none = refl
is_none (Some x) none = absurd (let both : true ≡ false = none in (cc))

pub returns : goal.returns
returns c =
    record {
      sealing = (
        c.new.result,
        subst (λ (s : SealerValue). IsFirstSealer c.args.self.now c.args.secrets.now s) (sym c.new.ensures)
            (record {
              keys = c.of.ensures;
              seat = c.from.ensures ∙ c.seat.ensures;
              session = refl;
              next = c.of_time-counters.ensures.next;
              left = c.of_time-counters.ensures.left;
              taken = refl;
            }),
        is_none c.args.self.now.sealer (sym c.is_some.ensures ∙ c.if-is_some.false),
        refl,
      );
    }
