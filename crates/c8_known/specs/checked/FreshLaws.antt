-- Checked, not believed: when two lists differ, why a run is refused, and that a run that is not refused is in the list
-- after its fresh part is taken.
use Rattle.std.proofs.Common.{◌≡◌, ◌≢◌, ℕ, zero, suc, ◌+◌, ◌-◌, ◌≤◌, ◌||◌, List, [], ◌∷◌, ◌++◌, length, take, drop, Bool, true, false, not}
use Rattle.std.proofs.Common.{cond, Option, Some, None, refl, sym, ap, ◌∙◌, inl, inr, arith}
use Rattle.std.specs.Prelude.{◌==◌, nat_lt}
use Rattle.std.proofs.Math.Seq.{take-length}
use Rattle.std.proofs.lemmas.Bool.{cases_eq, both_ways, eq-eqb, ne_eqb, ltb-false}
use Rattle.std.proofs.lemmas.List.{length-drop}
use Rattle.c8_known.specs.declared.error.KnownError.{KnownError}
use Rattle.c8_known.specs.declared.error.KnownError.TheVariants as errors
use Rattle.c8_known.specs.Known.{KnownValue, player_in, count_in}
use Rattle.c8_known.specs.Fresh.{differ, is_from_leaver, misfit, refusal, fresh_words}

-- ---- when two lists differ

pub differ_same : (xs : List ℕ) → differ xs xs ≡ false
unfolding differ
differ_same [] = refl
differ_same (x ∷ xs) = rw (eq-eqb x x refl) (differ_same xs)

or_true : (test : Bool) → test || true ≡ true
or_true true = refl
or_true false = refl

-- two different lists of the same length differ
pub differ_apart : (xs ys : List ℕ) → length xs ≡ length ys → xs ≢ ys → differ xs ys ≡ true
unfolding differ
differ_apart [] [] long apart = absurd (apart refl)
differ_apart [] (y ∷ ys) long apart = absurd (omega arith)
differ_apart (x ∷ xs) [] long apart = absurd (omega arith)
differ_apart (x ∷ xs) (y ∷ ys) long apart =
    elim (cases_eq x y) [
      | inl same ↦
          let rest = differ_apart xs ys (omega arith) (λ all. apart (cc)) in
          ap (λ (later : Bool). not (x == y) || later) rest ∙ or_true (not (x == y))
      | inr other ↦ rw (ne_eqb x y other) refl
    ]

-- ---- what is in the list

drop_left : (xs ys : List ℕ) (n : ℕ) → n ≤ length xs → drop n (xs ++ ys) ≡ drop n xs ++ ys
drop_left xs ys zero within = refl
drop_left [] ys (suc n) within = absurd (omega arith)
drop_left (x ∷ xs) ys (suc n) within = drop_left xs ys n (omega (arith, within))

agree_head : (x y : ℕ) (rest : Bool) → not (x == y) || rest ≡ false → (x ≡ y) × (rest ≡ false)
agree_head x y rest none =
    elim (cases_eq x y) [
      | inl same ↦ (same, grind (arith))
      | inr apart ↦ let differs = rw (ne_eqb x y apart) at none in absurd (both_ways true differs refl)
    ]

stands_here : (held words : List ℕ) → differ held words ≡ false → take (length words) (held ++ drop (length held) words) ≡ words
unfolding differ
stands_here [] words same = take-length words
stands_here (x ∷ held) [] same = refl
stands_here (x ∷ held) (w ∷ words) same =
    let both = agree_head x w (differ held words) same in
    rw both.0 (ap (λ (rest : List ℕ). w ∷ rest) (stands_here held words both.1))

pub stands : (held words : List ℕ) (start : ℕ) → start ≤ length held → differ (drop start held) words ≡ false
    → take (length words) (drop start (held ++ drop (length held - start) words)) ≡ words
stands held words start from same =
    let many : length (drop start held) ≡ length held - start = length-drop start held in
    rw (drop_left held (drop (length held - start) words) start from, ← many) (stands_here (drop start held) words same)

-- ---- why a run is refused

none_past : (test : Bool) (x : KnownError) (others : Option KnownError) → cond test (Some x) others ≡ None → (test ≡ false) × (others ≡ None)
none_past true x others e = absurd cc
none_past false x others e = (refl, e)

not_at_first : (test : Bool) (x : KnownError) (others : Option KnownError) → test ≡ false → cond test (Some x) others ≡ others
not_at_first test x others fails = rw fails refl

-- a run that is not refused fits what is held
pub misfit_none : (k : KnownValue) (player teller start : ℕ) (words : List ℕ) → refusal k player teller start words ≡ None
    → misfit k player start words ≡ None
unfolding refusal
misfit_none k player teller start words none = (none_past (is_from_leaver k player teller) errors.FromLeaver (misfit k player start words) none).1

pub misfit_is : (k : KnownValue) (player teller start : ℕ) (words : List ℕ) (error : KnownError) → refusal k player teller start words ≡ Some error
    → is_from_leaver k player teller ≡ false → misfit k player start words ≡ Some error
unfolding refusal
misfit_is k player teller start words error is stays =
    sym (not_at_first (is_from_leaver k player teller) errors.FromLeaver (misfit k player start words) stays) ∙ is

-- what is known of a run that is not refused
pub record IsFresh (k : KnownValue) (player start : ℕ) (words : List ℕ) : Type 0 where
  pub room : start + length words ≤ k.limit
  pub no_gap : start ≤ count_in k player
  pub same : differ (drop start (player_in k player).held) words ≡ false

pub is_fresh : (k : KnownValue) (player teller start : ℕ) (words : List ℕ) → refusal k player teller start words ≡ None → IsFresh k player start words
is_fresh k player teller start words none =
    let full = none_past (nat_lt k.limit (start + length words)) errors.Full _ (misfit_none k player teller start words none) in
    let gap = none_past (nat_lt (count_in k player) start) errors.Gap _ full.1 in
    let differs = none_past (differ (drop start (player_in k player).held) words) errors.Differs None gap.1 in
    let room = ltb-false k.limit (start + length words) full.0 in
    let from = ltb-false (count_in k player) start gap.0 in
    record { room = omega (arith, room); no_gap = omega (arith, from); same = differs.0 }

pub fresh_stands : (k : KnownValue) (player teller start : ℕ) (words : List ℕ) → refusal k player teller start words ≡ None
    → take (length words) (drop start ((player_in k player).held ++ fresh_words k player start words)) ≡ words
fresh_stands k player teller start words none =
    let is = is_fresh k player teller start words none in
    stands (player_in k player).held words start is.no_gap is.same
