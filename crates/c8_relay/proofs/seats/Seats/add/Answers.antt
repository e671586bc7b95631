-- Who sits down in a free place is found by it, and the others are found where they were.
use Rattle.std.proofs.Common.{◌≡◌, cond, List, None, Some, sym, subst}
use Rattle.std.specs.Map.{lookup}
use Rattle.c8_relay.specs.declared.address.Place.{Place}
use Rattle.c8_relay.specs.declared.address.Sender.{Sender}
use Rattle.c8_relay.specs.declared.seats.Seated.{Seated}
use Rattle.c8_relay.specs.Seating.{same_place, place_of, IsHolder}
use Rattle.c8_relay.proofs.IndexLemmas.{index_added}
use Rattle.c8_relay.proofs.seats.Seats.add.Goals as goal

pub invariant_of-self-2 : goal.invariant_of-self-2
invariant_of-self-2 c =
    let P : Place → Type 0 = λ w. (p : Place)
    → lookup (same_place p) c.insert-2.new.self.entries
    ≡ cond (same_place w p) (Some c.args.sender.address) (lookup (same_place p) c.self.inside.places.entries) in
    let Q : List (Sender × Seated) → Type 0 = λ members. IsHolder members (place_of c.args.sender c.args.seated) None in
    index_added _ _ _ _ c.args.sender c.args.seated c.self.invariant (subst Q (sym c.self.view_is) c.requires.free)
    c.in-Ok.ensures.updates.0 (subst P c.place-place.ensures c.in-Ok-insert.ensures.updates.0)
