-- The place is forgotten with the seat, and those who still sit are found where they were.
use Rattle.std.proofs.Common.{◌≡◌, cond, None, sym, subst}
use Rattle.std.specs.Map.{lookup}
use Rattle.c8_relay.specs.declared.address.Place.{Place}
use Rattle.c8_relay.specs.Seating.{same_place}
use Rattle.c8_relay.proofs.IndexLemmas.{index_removed}
use Rattle.c8_relay.proofs.seats.Seats.remove.Goals as goal

pub invariant_of-self-2 : goal.invariant_of-self-2
invariant_of-self-2 c =
    let P : Place → Type 0 = λ w. (p : Place)
    → lookup (same_place p) c.remove-2.new.self.entries ≡ cond (same_place w p) None (lookup (same_place p) c.self.inside.places.entries) in
    index_removed _ _ _ _ c.args.sender c.in-Some.seated c.self.invariant (sym c.in-Some.ensures.value) c.remove.ensures.updates.0
    (subst P c.place.ensures c.remove-2.ensures.updates.0)
