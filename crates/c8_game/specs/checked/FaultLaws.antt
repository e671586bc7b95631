-- Checked, not believed: how the first fault is found line by line, and that there is at most one.
use Rattle.std.proofs.Common.{◌≡◌, ℕ, zero, suc, ◌<◌, ◌≤◌, ◌⊎◌, List, [], ◌∷◌, ◌++◌, length, Option, Some, None, refl, sym, ap, ◌∙◌, inl}
use Rattle.std.proofs.Common.{inr, append_assoc, length-append, arith}
use Rattle.std.specs.List.{slice_get}
use Rattle.std.proofs.lemmas.Bool.{cases_lt}
use Rattle.std.proofs.lemmas.List.{append-nil, take-append-le}
use Rattle.std.proofs.lemmas.Option.{slice_get_past}
use Rattle.std.proofs.Math.Seq.{take-append_seam}
use Rattle.c8_game.specs.Faults.{fault_at, AreFaultless, IsFirstFault, IsFirstFaultAt}

slice_get-left : {X : Type 0} (xs ys : List X) (k : ℕ) → k < length xs → slice_get (xs ++ ys) k ≡ slice_get xs k
slice_get-left [] ys k within = absurd (omega arith)
slice_get-left (x ∷ xs) ys zero within = refl
slice_get-left (x ∷ xs) ys (suc k) within = slice_get-left xs ys k (omega arith)

slice_get-seam : {X : Type 0} (xs : List X) (y : X) (ys : List X) → slice_get (xs ++ y ∷ ys) (length xs) ≡ Some y
slice_get-seam [] y ys = refl
slice_get-seam (x ∷ xs) y ys = slice_get-seam xs y ys

pub none_or_some : {X : Type 0} (o : Option X) → (o ≡ None) ⊎ ((x : X) × (o ≡ Some x))
none_or_some None = inl refl
none_or_some (Some x) = inr (x, refl)

module _ {E : Type 0} (judge : List (List ℕ) → List ℕ → Option E) where
  -- lines that follow do not change the faults of the lines before
  pub fault_at-left : (before after : List (List ℕ)) (place : ℕ) → place < length before
      → fault_at judge (before ++ after) place ≡ fault_at judge before place
  fault_at-left before after place within = rw (slice_get-left before after place within, take-append-le place before after (omega arith)) refl

  pub fault_at-seam : (before : List (List ℕ)) (line : List ℕ) (after : List (List ℕ))
      → fault_at judge (before ++ line ∷ after) (length before) ≡ judge before line
  fault_at-seam before line after = rw (slice_get-seam before line after, take-append_seam before (line ∷ after)) refl

  pub fault_at-past : (text_lines : List (List ℕ)) (place : ℕ) → length text_lines ≤ place → fault_at judge text_lines place ≡ None
  fault_at-past text_lines place past = rw (slice_get_past text_lines place past) refl

  pub faultless_none : AreFaultless judge []
  faultless_none place = refl

  pub faultless_more : (before : List (List ℕ)) (line : List ℕ) → AreFaultless judge before → judge before line ≡ None
      → AreFaultless judge (before ++ line ∷ [])
  faultless_more before line faultless fine place =
      elim (cases_lt place (length before)) [
        | inl within ↦ fault_at-left before (line ∷ []) place within ∙ faultless place
        | inr past ↦ elim (cases_lt (length before) place) [
          | inl beyond ↦ fault_at-past (before ++ line ∷ []) place (omega (arith, length-append before (line ∷ [])))
          | inr here ↦ let is : place ≡ length before = omega arith in rw is (fault_at-seam before line [] ∙ fine)
        ]
      ]

  -- the line after faultless ones is the first at fault, whatever follows it
  pub first_found : (before : List (List ℕ)) (line : List ℕ) (after : List (List ℕ)) (fault : E) → AreFaultless judge before
      → judge before line ≡ Some fault → IsFirstFault judge (before ++ line ∷ after) fault
  first_found before line after fault faultless bad = record {
    place = length before;
    here = fault_at-seam before line after ∙ bad;
    least = λ earlier within. fault_at-left before (line ∷ after) earlier within ∙ faultless earlier;
  }

  -- its place is the number of the lines before it
  pub first_placed : (before : List (List ℕ)) (line : List ℕ) (after : List (List ℕ)) (fault : E) → AreFaultless judge before
      → judge before line ≡ Some fault → IsFirstFaultAt judge (before ++ line ∷ after) fault (length before)
  unfolding first_found
  first_placed before line after fault faultless bad = (first_found before line after fault faultless bad, refl)

  -- each of faultless lines is faultless, given those before it
  pub faultless_line : (before : List (List ℕ)) (line : List ℕ) (after : List (List ℕ)) → AreFaultless judge (before ++ line ∷ after)
      → judge before line ≡ None
  faultless_line before line after faultless = sym (fault_at-seam before line after) ∙ faultless (length before)

  pub first_or_faultless : (text_lines : List (List ℕ)) (fault : E) → IsFirstFault judge text_lines fault → AreFaultless judge text_lines → ⊥
  first_or_faultless text_lines fault first faultless = let same = sym (faultless first.place) ∙ first.here in cc

  pub one_first : (text_lines : List (List ℕ)) (one other : E) → IsFirstFault judge text_lines one → IsFirstFault judge text_lines other → one ≡ other
  one_first text_lines one other first second =
      elim (cases_lt first.place second.place) [
        | inl before ↦ let none : fault_at judge text_lines first.place ≡ None = second.least first.place before in
            let some : fault_at judge text_lines first.place ≡ Some one = first.here in absurd (cc)
        | inr after ↦ elim (cases_lt second.place first.place) [
          | inl before ↦ let none : fault_at judge text_lines second.place ≡ None = first.least second.place before in
              let some : fault_at judge text_lines second.place ≡ Some other = second.here in absurd (cc)
          | inr here ↦ let same : first.place ≡ second.place = omega arith in
              let some : Some one ≡ Some other = sym first.here ∙ ap (fault_at judge text_lines) same ∙ second.here in cc
        ]
      ]

  -- lines have a first fault or none
  found_after : (before after : List (List ℕ)) → AreFaultless judge before
      → AreFaultless judge (before ++ after) ⊎ ((fault : E) × IsFirstFault judge (before ++ after) fault)
  found_after before [] faultless = inl (λ place. rw (append-nil before) (faultless place))
  found_after before (line ∷ after) faultless =
      elim (none_or_some (judge before line)) [
        | inl fine ↦ rw (← append_assoc before (line ∷ []) after)
            (found_after (before ++ line ∷ []) after (faultless_more before line faultless fine))
        | inr bad ↦ inr (bad.0, first_found before line after bad.0 faultless bad.1)
      ]

  pub faultless_or_first : (text_lines : List (List ℕ)) → AreFaultless judge text_lines ⊎ ((fault : E) × IsFirstFault judge text_lines fault)
  faultless_or_first text_lines = found_after [] text_lines faultless_none
