-- Who sits where, once an address took a place.
use Rattle.std.proofs.Common.{◌≡◌, ℕ, Bool, true, false, List, Option, Some, None, Result, Ok, Err, IfOk, IfErr, IfSome, MatchBool, refl}
use Rattle.std.proofs.Common.{sym, ap, ◌∙◌, subst, inl, inr}
use Rattle.std.proofs.lemmas.Bool.{cases_Bool, cond-true, cond-false, false_from_ne_true}
use Rattle.c8_relay.specs.declared.address.Address.{Address}
use Rattle.c8_relay.specs.declared.address.Place.{Place}
use Rattle.c8_relay.specs.declared.address.Sender.{Sender}
use Rattle.c8_relay.specs.declared.seats.Seated.{Seated}
use Rattle.c8_relay.specs.Seating.{same_sender, seat_of, place_of, sender_at, Changes, Stays, Vacates, Listens, SeatsOnly, Expels, Moves, KeepsOthers}
use Rattle.c8_relay.proofs.SameLemmas.{sender_decides, one_place, one_sender}
use Rattle.c8_relay.proofs.IndexLemmas.{nothing, one_value}

pub if_ok : {A E : Type 0} (P : A → Type 0) (r : Result A E) → ((x : A) → r ≡ Ok x → P x) → IfOk r P
if_ok P (Ok x) each = each x refl
if_ok P (Err e) each = tt

pub of_ok : {A E : Type 0} (P : A → Type 0) (r : Result A E) (x : A) → IfOk r P → r ≡ Ok x → P x
of_ok P r x all is = subst (λ q. IfOk q P) is all

pub if_err : {A E : Type 0} (P : E → Type 0) (r : Result A E) → ((e : E) → r ≡ Err e → P e) → IfErr r P
if_err P (Ok x) each = tt
if_err P (Err e) each = each e refl

pub of_err : {A E : Type 0} (P : E → Type 0) (r : Result A E) (e : E) → IfErr r P → r ≡ Err e → P e
of_err P r e all is = subst (λ q. IfErr q P) is all

pub of_some : {A : Type 0} (P : A → Type 0) (o : Option A) (x : A) → IfSome o P → o ≡ Some x → P x
of_some P o x all is = subst (λ q. IfSome q P) is all

module _ (address : Address) (place : Place) (seated : Seated) (old vacated left new : List (Sender × Seated))
    (vacates : Vacates old vacated place) (leaves : Changes vacated left (sender_at address place) None) where
  -- for all others nothing changes after the place was vacated
  apart : (done : Bool) → MatchBool done (Changes left new (sender_at address place) (Some seated)) (Stays left new) → (q : Sender)
      → same_sender (sender_at address place) q ≡ false → seat_of new q ≡ seat_of vacated q
  apart true put q other = put q ∙ cond-false (same_sender (sender_at address place) q) (Some seated) (seat_of left q) other ∙ leaves q
      ∙ cond-false (same_sender (sender_at address place) q) None (seat_of vacated q) other
  apart false put q other = put q ∙ leaves q ∙ cond-false (same_sender (sender_at address place) q) None (seat_of vacated q) other

  -- the seat that it has is the new one
  own : (done : Bool) → MatchBool done (Changes left new (sender_at address place) (Some seated)) (Stays left new)
      → (q : Sender) (s : Seated) → same_sender (sender_at address place) q ≡ true → seat_of new q ≡ Some s → seated ≡ s
  own true put q s same at = one_value _ _ (sym
      (put q ∙ cond-true (same_sender (sender_at address place) q) (Some seated) (seat_of left q) same) ∙ at)
  own false put q s same at = absurd (nothing s
      (sym (put q ∙ leaves q ∙ cond-true (same_sender (sender_at address place) q) None (seat_of vacated q) same) ∙ at))

  pub others_stay : (done : Bool) → MatchBool done (Changes left new (sender_at address place) (Some seated)) (Stays left new)
      → (other : Sender) (s : Seated) → (other.address ≡ address → ⊥)
      → seat_of old other ≡ Some s → (place_of other s ≡ place → ⊥) → seat_of new other ≡ Some s
  others_stay done put other s far at elsewhere =
      let no : same_sender (sender_at address place) other ≡ false =
      false_from_ne_true _ (λ t. far (sym (ap (λ (a : Sender). a.address) ((sender_decides (sender_at address place) other).0 t)))) in
      apart done put other no ∙ (vacates other s).1 at elsewhere

  pub sits_only : seated.name ≡ place.name → seated.seat ≡ place.seat → (done : Bool)
      → MatchBool done (Changes left new (sender_at address place) (Some seated)) (Stays left new) → SeatsOnly address place old new
  sits_only name seat done put other at sits =
      elim (cases_Bool (same_sender (sender_at address place) (sender_at other at))) [
        | inl same ↦ (
            let who = (sender_decides (sender_at address place) (sender_at other at)).0 same in
            let is : seated ≡ sits.0 = own done put (sender_at other at) sits.0 same sits.1 in
            inr (
              sym (ap (λ (a : Sender). a.address) who),
              one_place at place (sym sits.2 ∙ sym (ap (λ (s : Seated). s.name) is) ∙ name) (sym (ap (λ (a : Sender). a.lane) who))
                  (sym sits.3 ∙ sym (ap (λ (s : Seated). s.seat) is) ∙ seat),
            ))
        | inr far ↦ inl (sits.0, (vacates (sender_at other at) sits.0).0 (sym (apart done put (sender_at other at) far) ∙ sits.1), sits.2, sits.3)
      ]

pub only_expelled : (now : ℕ) (address : Address) (place : Place) (old new : List (Sender × Seated)) → Expels now old new
    → SeatsOnly address place old new
only_expelled now address place old new expels other seat sits = inl (sits.0, (expels (sender_at other seat) sits.0).0 sits.1, sits.2, sits.3)

module _ (now : ℕ) (address : Address) (place : Place) (old mid new : List (Sender × Seated)) where
  -- after some were expelled, one takes the place
  pub moves : Expels now old mid → ((other : Sender) (s : Seated) → (other.address ≡ address → ⊥) → seat_of mid other ≡ Some s
      → (place_of other s ≡ place → ⊥) → seat_of new other ≡ Some s)
      → Moves now address place old new
  moves expels stays other s far at heard elsewhere = stays other s far ((expels other s).1 at heard) elsewhere

  pub only_after : Expels now old mid → SeatsOnly address place mid new → SeatsOnly address place old new
  only_after expels only other seat sits = elim (only other seat sits) [
    | inl was ↦ inl (was.0, (expels (sender_at other seat) was.0).0 was.1, was.2, was.3)
    | inr is ↦ inr is
  ]

  -- nobody listens in the place, so no one who was heard is in it
  pub keeps : mid ≡ old → ((other : Address) → Listens now mid other place → None ≡ Some other) → Moves now address place mid new
      → KeepsOthers now address old new
  keeps same none moves other s far at heard =
      let P : List (Sender × Seated) → Type 0 = λ m. seat_of m other ≡ Some s in
      let was : P mid = subst P (sym same) at in
      moves other s far was heard (λ is.
      let lane : other ≡ sender_at other.address place = one_sender other (sender_at other.address place) refl (ap (λ (p : Place). p.lane) is) in
      let Q : Sender → Type 0 = λ a. seat_of mid a ≡ Some s in
      nothing other.address (none other.address (s, subst Q lane was, ap (λ (p : Place). p.name) is, ap (λ (p : Place). p.seat) is, heard)))

  pub only_same : mid ≡ old → SeatsOnly address place mid new → SeatsOnly address place old new
  only_same same only = subst (λ m. SeatsOnly address place m new) same only
