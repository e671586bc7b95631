-- Who sits somewhere stays found by the place, as one sits down or stands up.
use Rattle.std.proofs.Common.{◌≡◌, cond, List, Option, Some, None, refl, sym, ap, ap₂, ◌∙◌, subst, inl, inr}
use Rattle.std.specs.Map.{lookup}
use Rattle.std.proofs.lemmas.Bool.{cases_Bool, both_ways, cond-true, cond-false}
use Rattle.c8_relay.specs.declared.address.Address.{Address}
use Rattle.c8_relay.specs.declared.address.Place.{Place}
use Rattle.c8_relay.specs.declared.address.Sender.{Sender}
use Rattle.c8_relay.specs.declared.seats.Seated.{Seated}
use Rattle.c8_relay.specs.Seating.{same_sender, same_place, seat_of, place_of, sender_at, IsIndexed, IsHolder, Changes}
use Rattle.c8_relay.proofs.SameLemmas.{sender_decides, place_decides, one_sender}

pub nothing : {A : Type 0} (x : A) → None ≡ Some x → ⊥
nothing x is = cc

pub one_value : {A : Type 0} (x y : A) → Some x ≡ Some y → x ≡ y
one_value x y is = cc

module _ (members after : List (Sender × Seated)) (places left : List (Place × Address)) (sender : Sender) (seated : Seated) where
  -- the sender stands up, and its place is taken out
  pub index_removed : IsIndexed members places → seat_of members sender ≡ Some seated → Changes members after sender None
      → ((p : Place) → lookup (same_place p) left ≡ cond (same_place (place_of sender seated) p) None (lookup (same_place p) places))
      → IsIndexed after left
  index_removed indexed sits change gone = λ q s at. elim (cases_Bool (same_sender sender q)) [
    | inl same ↦ absurd (nothing s (sym (change q ∙ cond-true (same_sender sender q) None (seat_of members q) same) ∙ at))
    | inr apart ↦ (
        let was : seat_of members q ≡ Some s = sym (change q ∙ cond-false (same_sender sender q) None (seat_of members q) apart) ∙ at in
        let found = indexed q s was in
        elim (cases_Bool (same_place (place_of sender seated) (place_of q s))) [
          | inl one ↦ (
              let place : place_of sender seated ≡ place_of q s = (place_decides _ _).0 one in
              let P : Place → Type 0 = λ p. lookup (same_place p) places ≡ Some sender.address in
              let other : P (place_of q s) = subst P place (indexed sender seated sits) in
              let same : sender ≡ q = one_sender sender q (one_value _ _ (sym other ∙ found)) (ap (λ (p : Place). p.lane) place) in
              absurd (both_ways _ apart ((sender_decides sender q).1 same)))
          | inr other ↦ gone (place_of q s) ∙ cond-false (same_place (place_of sender seated) (place_of q s)) None
              (lookup (same_place (place_of q s)) places) other ∙ found
        ])
  ]

  -- the sender sits down in a free place
  pub index_added : IsIndexed members places → IsHolder members (place_of sender seated) None → Changes members after sender (Some seated)
      → ((p : Place) → lookup (same_place p) left
      ≡ cond (same_place (place_of sender seated) p) (Some sender.address) (lookup (same_place p) places)) → IsIndexed after left
  index_added indexed free change put = λ q s at. elim (cases_Bool (same_sender sender q)) [
    | inl same ↦ (
        let is : seated ≡ s = one_value _ _ (sym (change q ∙ cond-true (same_sender sender q) (Some seated) (seat_of members q) same) ∙ at) in
        let who : sender ≡ q = (sender_decides sender q).0 same in
        let P : Sender × Seated → Type 0 = λ p. lookup (same_place (place_of p.0 p.1)) left ≡ Some p.0.address in
        let here : P (sender, seated) = put (place_of sender seated)
        ∙ cond-true (same_place (place_of sender seated) (place_of sender seated)) (Some sender.address) _
        ((place_decides (place_of sender seated) (place_of sender seated)).1 refl) in
        subst P (ap₂ (λ (a : Sender) (b : Seated). (a, b)) who is) here)
    | inr apart ↦ (
        let was : seat_of members q ≡ Some s = sym (change q ∙ cond-false (same_sender sender q) (Some seated) (seat_of members q) apart) ∙ at in
        elim (cases_Bool (same_place (place_of sender seated) (place_of q s))) [
          | inl one ↦ absurd (nothing q.address (free q s was (sym ((place_decides (place_of sender seated) (place_of q s)).0 one))))
          | inr other ↦ put (place_of q s) ∙ cond-false (same_place (place_of sender seated) (place_of q s)) (Some sender.address)
              (lookup (same_place (place_of q s)) places) other ∙ indexed q s was
        ])
  ]

-- nobody sits in a place where the one who might does not
pub nobody_else : (members : List (Sender × Seated)) (place : Place) (address : Address) → IsHolder members place (Some address)
    → ((seated : Seated) → seat_of members (sender_at address place) ≡ Some seated → seated.name ≡ place.name → seated.seat ≡ place.seat
    → ⊥) → IsHolder members place None
nobody_else members place address holder none q s at is =
    let who : address ≡ q.address = one_value _ _ (holder q s at is) in
    let same : q ≡ sender_at address place = one_sender q (sender_at address place) (sym who) (ap (λ (p : Place). p.lane) is) in
    let P : Sender → Type 0 = λ a. seat_of members a ≡ Some s in
    absurd (none s (subst P same at) (ap (λ (p : Place). p.name) is) (ap (λ (p : Place). p.seat) is))

-- two seats of one sender are one
pub one_seat : (o : Option Seated) (a b : Seated) → o ≡ Some a → o ≡ Some b → a ≡ b
one_seat o a b one other = one_value _ _ (sym one ∙ other)
