-- The rows of consecutive frames are a part of all rows.
use Rattle.std.proofs.Common.{◌≡◌, ℕ, zero, suc, ◌+◌, ◌-◌, ◌≤◌, ◌<◌, take, drop, refl, sym, ap, ◌∙◌, arith, inl, inr}
use Rattle.std.specs.Prelude.{map, min}
use Rattle.std.specs.List.{range_with_len}
use Rattle.std.proofs.lemmas.Bool.{cases_lt}
use Rattle.std.proofs.lemmas.List.{drop-map, take_all}
use Rattle.std.proofs.lemmas.List.FromFn.{length-map-range_with_len, take-map-range_with_len}

drop_counting : (k a n : ℕ) → k ≤ n → drop k (range_with_len a n) ≡ range_with_len (a + k) (n - k)
drop_counting zero a n le =
    let here : a ≡ a + 0 = omega arith in
    let all : n ≡ n - 0 = omega arith in
    rw (← here, ← all) refl
drop_counting (suc k) a zero le = absurd (omega arith)
drop_counting (suc k) a (suc n) le =
    let here : (a + 1) + k ≡ a + suc k = omega arith in
    let rest : n - k ≡ suc n - suc k = omega arith in
    drop_counting k (a + 1) n (omega arith) ∙ ap (λ b. range_with_len b (n - k)) here ∙ ap (range_with_len (a + suc k)) rest

pub part_of_rows : {X : Type 0} (f : ℕ → X) (start all n most : ℕ) → start ≤ all → n ≡ min (all - start) most
    → map f (range_with_len start n) ≡ take most (drop start (map f (range_with_len 0 all)))
part_of_rows {X} f start all n most low least =
    let from : 0 + start ≡ start = omega arith in
    let dropped : drop start (map f (range_with_len 0 all)) ≡ map f (range_with_len start (all - start)) =
    drop-map f start (range_with_len 0 all) ∙ ap (map f) (drop_counting start 0 all low ∙ ap (λ b. range_with_len b (all - start)) from) in
    elim (cases_lt most (all - start)) [
      | inl more ↦
          let is : n ≡ most = omega (arith, least, more) in
          ap (λ k. map f (range_with_len start k)) is ∙ sym (take-map-range_with_len f start (all - start) most (omega (arith, more)))
          ∙ sym (ap (take most) dropped)
      | inr few ↦
          let is : n ≡ all - start = omega (arith, least, few) in
          ap (λ k. map f (range_with_len start k)) is
          ∙ sym (take_all most (map f (range_with_len start (all - start)))
          (omega (arith, few, length-map-range_with_len f start (all - start)))) ∙ sym (ap (take most) dropped)
    ]
