-- The part of a list that a window lends.
use Rattle.std.proofs.Common.{◌≡◌, ℕ, zero, suc, ◌+◌, ◌-◌, ◌≤◌, List, [], ◌∷◌, length, take, drop, min, refl, sym, ◌∙◌, inl, inr, arith}
use Rattle.std.proofs.lemmas.Bool.{cases_lt}
use Rattle.std.proofs.lemmas.List.{take_all, length-drop}

drop_past : (xs : List ℕ) (n : ℕ) → length xs ≤ n → drop n xs ≡ []
drop_past [] zero past = refl
drop_past [] (suc n) past = refl
drop_past (x ∷ xs) zero past = absurd (omega arith)
drop_past (x ∷ xs) (suc n) past = drop_past xs n (omega (arith, past))

pub part_is : (xs : List ℕ) (a n count from to : ℕ) → count ≡ length xs → from ≡ min a count → to ≡ min count (from + n)
    → take (to - from) (drop from xs) ≡ take n (drop a xs)
part_is xs a n count from to all begin end =
    elim (cases_lt (length xs) a) [
      | inl past ↦
          rw (
            drop_past xs from (omega (arith, all, begin, past)),
            drop_past xs a (omega (arith, past)),
            take_all {A = ℕ} (to - from) [] (omega arith),
            take_all {A = ℕ} n [] (omega arith),
          ) refl
      | inr within ↦
          let start : from ≡ a = omega (arith, all, begin, within) in
          elim (cases_lt (a + n) (length xs)) [
            | inl more ↦ let many : to - from ≡ n = omega (arith, all, begin, end, within, more) in rw (many, start) refl
            | inr less ↦
                rw start (take_all (to - a) (drop a xs) (omega (arith, all, start, end, less, within, length-drop a xs))
                ∙ sym (take_all n (drop a xs) (omega (arith, less, length-drop a xs))))
          ]
    ]
