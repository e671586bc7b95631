-- The greatest counter was taken and none above it, so what exceeds it exceeds all.
use Rattle.std.proofs.Common.{ℕ, List, Option, subst, sym, arith}
use Rattle.std.specs.List.{Contains}
use Rattle.std.proofs.lemmas.Bool.Decides.{nat_tests}
use Rattle.c8_transport.specs.SeenBits.{HasSeen}
use Rattle.c8_transport.proofs.seen.Seen.is_newest.Goals as goal

pub returns-in-Some : goal.returns-in-Some
returns-in-Some c =
    let at = subst (λ (o : Option ℕ). HasSeen o c.self.inside.marks c.self.inside.taken.items) c.in-Some.is c.self.invariant in (
      λ above n has. let most = at.upper n (subst (λ (taken : List ℕ). Contains taken n) (sym c.self.view_is) has) in grind (arith, nat_tests, most),
      λ newest. let less = newest c.in-Some.greatest
          (subst (λ (taken : List ℕ). Contains taken c.in-Some.greatest) c.self.view_is at.reached) in grind (arith, nat_tests, less),
    )
