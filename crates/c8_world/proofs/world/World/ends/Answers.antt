-- The standings are by some reads of the disks, and by any reads undropped players agree, so the verdict is yes.
use Rattle.std.proofs.Common.{◌≡◌, List, true, ap, map, subst, ◌∙◌}
use Rattle.std.specs.Prelude.{◌↔◌}
use Rattle.c8_world.specs.declared.ends.Standing.{Standing}
use Rattle.c8_world.specs.World.{World}
use Rattle.c8_world.specs.Agreement.{Reads}
use Rattle.c8_world.specs.Table.{Holds}
use Rattle.c8_world.specs.Run.{WorldValue}
use Rattle.c8_world.specs.Ends.{tally_at, HaveAgreed, AreEnds}
use Rattle.c8_world.proofs.EndLemmas.{are_ends, ends_agree}
use Rattle.c8_world.proofs.world.World.ends.Goals as goal

pub returns-clause-ends : goal.returns-clause-ends
returns-clause-ends c =
    subst (λ (self : WorldValue). (w : World) → Holds self.table w
    → (reads : Reads) × AreEnds self.table w reads c.in_ok-players.players.items c.all_agree-agree.result) c.self.view_is
    (λ w holds. are_ends c.self.inside.table w c.in_ok-standings.standings.items c.in_ok-players.players.items c.all_agree-agree.result
    c.in_range.ensures.rules.at_least_two
    (c.in_ok-standings.ensures.known w holds) (c.in_ok-players.ensures ∙ ap (λ (xs : List Standing). map tally_at xs) c.deref.ensures.value)
    (subst (λ (xs : List Standing). (c.all_agree-agree.result ≡ true) ↔ HaveAgreed xs) c.deref-2.ensures.value c.all_agree-agree.ensures))

pub returns-clause-agree : goal.returns-clause-agree
returns-clause-agree c =
    let lived = c.self.invariant in
    let ends = are_ends c.self.inside.table lived.now c.in_ok-standings.standings.items c.in_ok-players.players.items
    c.all_agree-agree.result c.in_range.ensures.rules.at_least_two
    (c.in_ok-standings.ensures.known lived.now lived.holds)
    (c.in_ok-players.ensures ∙ ap (λ (xs : List Standing). map tally_at xs) c.deref.ensures.value)
    (subst (λ (xs : List Standing). (c.all_agree-agree.result ≡ true) ↔ HaveAgreed xs) c.deref-2.ensures.value c.all_agree-agree.ensures) in
    ends_agree c.self.inside.table lived.now ends.0 c.in_ok-players.players.items c.all_agree-agree.result ends.1
    (λ p r. c.what_disks_give_agrees.ensures c.self.inside.table.rules c.self.inside.table.room lived.now ends.0 p r
    c.in_range.ensures.rules c.in_range.ensures.room lived.holds.reached)
