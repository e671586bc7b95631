-- A counter is judged among those of its sender and changes no other seat's, and none at all if it is not new.
use Rattle.std.proofs.Common.{ℕ, List, [], ◌∷◌, ◌++◌, ◌≡◌, ◌-◌, ◌∙◌, length, slice_set, sym, ap, subst, arith}
use Rattle.c8_transport.specs.Counters.{IsNew, IsNewest}
use Rattle.std.specs.Bool.{IsTrue}
use Rattle.std.specs.Prelude.{◌↔◌}
use Rattle.c8_transport.proofs.SealerLemmas.{element, put_back}
use Rattle.c8_transport.proofs.sealer.take_from.Goals as goal

pub returns-then-take-clause-taken : goal.returns-then-take-clause-taken
returns-then-take-clause-taken c =
    let few = c.args.from.to_six in
    let some = c.args.from.from_one in
    let size : length c.args.seen.now ≡ 6 = c.told-seen in
    let is = element c.args.seen.now (c.args.from.number - 1) c.place_of.result c.index-seen-place_of.result c.place_of.ensures.is
    (omega (arith, few, some, size)) in (
      subst (λ (taken : List ℕ). IsNew taken c.args.counter) (sym is) c.if-take.ensures.0,
      subst (λ (taken : List ℕ). IsTrue c.is_newest-is_newest.result ↔ IsNewest taken c.args.counter) (sym is) c.is_newest-is_newest.ensures,
      ap (λ (place : ℕ). slice_set c.args.seen.now place c.take.new.self) c.place_of.ensures.is
          ∙ ap (slice_set c.args.seen.now (c.args.from.number - 1))
          (c.if-take.ensures.1 ∙ ap (λ (taken : List ℕ). taken ++ c.args.counter ∷ []) (sym is)),
    )

pub returns-else-take-clause-taken : goal.returns-else-take-clause-taken
returns-else-take-clause-taken c =
    let few = c.args.from.to_six in
    let some = c.args.from.from_one in
    let size : length c.args.seen.now ≡ 6 = c.told-seen in
    let is = element c.args.seen.now (c.args.from.number - 1) c.place_of.result c.index-seen-place_of.result c.place_of.ensures.is
    (omega (arith, few, some, size)) in (
      λ new. c.if-take.ensures.0 (subst (λ (taken : List ℕ). IsNew taken c.args.counter) is new),
      ap (λ (place : ℕ). slice_set c.args.seen.now place c.take.new.self) c.place_of.ensures.is
          ∙ ap (slice_set c.args.seen.now (c.args.from.number - 1)) c.if-take.ensures.1
          ∙ put_back c.args.seen.now (c.args.from.number - 1) _ (omega (arith, few, some, size)) is,
    )
