-- What one packet changes.
use Rattle.std.proofs.Common.{◌≡◌, ◌⊎◌, ℕ, List, Some, Result, Ok, Err, refl, sym, ◌∙◌, subst, arith, inl, inr, slice_index}
use Rattle.c8_relay.specs.declared.address.Address.{Address}
use Rattle.c8_relay.specs.declared.address.Lane.{Lane}
use Rattle.c8_relay.specs.declared.address.Lane.TheVariants.{Players, Watchers}
use Rattle.c8_relay.specs.declared.address.Place.{Place}
use Rattle.c8_relay.specs.declared.address.Sender.{Sender}
use Rattle.c8_relay.specs.declared.control.Join.{Join}
use Rattle.c8_relay.specs.declared.control.Route.{Route}
use Rattle.c8_relay.specs.declared.seats.Seated.{Seated}
use Rattle.c8_relay.specs.Reading.{IsDatagram, IsJoin, lane_of_kind, lane_code}
use Rattle.c8_relay.specs.Seating.{Sits, SeatsOnly}

pub one_ok : {A E : Type 0} (r : Result A E) (x y : A) → r ≡ Ok x → r ≡ Ok y → x ≡ y
one_ok r x y one other = let e : Ok x ≡ Ok y = sym one ∙ other in cc

pub no_ok : {A E : Type 0} (r : Result A E) (x : A) (e : E) → r ≡ Err e → r ≡ Ok x → ⊥
no_ok r x e one other = let e : Err e ≡ Ok x = sym one ∙ other in cc

one_lane : (a b : Lane) (code : ℕ) → lane_of_kind code ≡ Some a → lane_of_kind code ≡ Some b → a ≡ b
one_lane a b code one other = let same : Some a ≡ Some b = sym one ∙ other in cc

a_route : Lane → ℕ → ℕ → Route
a_route lane from to = record { lane = lane; from = from; to = to }

-- a datagram names one route
pub one_route : (packet : List ℕ) (a b : Route) → IsDatagram packet a → IsDatagram packet b → a ≡ b
unfolding a_route
one_route packet a b one other =
    let lane : a.lane ≡ b.lane = one_lane a.lane b.lane (slice_index packet 3) one.kind other.kind in
    let from : a.from ≡ b.from = one.from ∙ sym other.from in
    let to : a.to ≡ b.to = one.to ∙ sym other.to in
    λ i. a_route (lane i) (from i) (to i)

pub may_only : (S : Type 0) (address : Address) (place : Place) (old mid new : List (Sender × Seated)) → mid ≡ old → S
    → SeatsOnly address place mid new
    → (other : Address) (seat : Place) → Sits new other seat → Sits old other seat ⊎ ((other ≡ address) × (seat ≡ place) × S)
may_only S address place old mid new same shown only other seat sits = elim (only other seat sits) [
  | inl was ↦ inl (let P : List (Sender × Seated) → Type 0 = λ m. Sits m other seat in subst P same was)
  | inr is ↦ inr (is.0, is.1, shown)
]

same_code : (a b : Lane) → lane_code a ≡ lane_code b → a ≡ b
same_code Players Players same = refl
same_code Players Watchers same = absurd (omega (arith, same))
same_code Watchers Players same = absurd (omega (arith, same))
same_code Watchers Watchers same = refl

-- a JOIN names one lane
pub joins_lane : (packet : List ℕ) (a b : Join) → IsJoin packet a → IsJoin packet b → a.place.lane ≡ b.place.lane
joins_lane packet a b one other = same_code a.place.lane b.place.lane (one.lane ∙ sym other.lane)
