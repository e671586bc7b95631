-- The least number that passes a test.
use Rattle.std.proofs.Common.{◌≡◌, inl, inr, ◌<◌, ◌≤◌, ℕ, zero, suc, nat_lt, ◌||◌, Bool, true, false, sym, subst, arith}
use Rattle.std.proofs.lemmas.Bool.{cases_Bool, cases_order, ltb-true, ltb-false, or_parts, or_cases, cond-true, cond-false}
use Rattle.c8_log.specs.Slots.{least}

pub record IsLeast (passes : ℕ → Bool) (bound n : ℕ) : Type 0 where
  pub within : n ≤ bound
  pub below : (m : ℕ) → m < n → passes m ≡ false
  pub at : n < bound → passes n ≡ true

pub least_is : (passes : ℕ → Bool) (bound : ℕ) → IsLeast passes bound (least passes bound)
least_is passes zero = record { within = omega arith; below = λ m lt. absurd (omega arith); at = λ lt. absurd (omega arith) }
least_is passes (suc bound) =
    let so_far : IsLeast passes bound (least passes bound) = least_is passes bound in
    elim (cases_Bool (nat_lt (least passes bound) bound || passes bound)) [
      | inl stays ↦
          let is = cond-true (nat_lt (least passes bound) bound || passes bound) (least passes bound) (suc bound) stays in
          subst (IsLeast passes (suc bound)) (sym is) (record {
            within = omega (arith, so_far.within);
            below = so_far.below;
            at = λ lt. elim (or_cases (nat_lt (least passes bound) bound) (passes bound) stays) [
              | inl found ↦ so_far.at (ltb-true _ _ found)
              | inr here ↦ elim (cases_order (least passes bound) bound) [
                | inl same ↦ subst (λ (k : ℕ). passes k ≡ true) (sym same) here
                | inr apart ↦ elim apart [ inl less ↦ so_far.at less | inr more ↦ absurd (omega (arith, so_far.within)) ]
              ]
            ];
          })
      | inr goes_on ↦
          let is = cond-false (nat_lt (least passes bound) bound || passes bound) (least passes bound) (suc bound) goes_on in
          let parts = or_parts (nat_lt (least passes bound) bound) (passes bound) goes_on in
          let past : bound ≤ least passes bound = ltb-false _ _ parts.0 in
          subst (IsLeast passes (suc bound)) (sym is) (record {
            within = omega arith;
            below = λ m lt. elim (cases_order m bound) [
              | inl same ↦ subst (λ (k : ℕ). passes k ≡ false) (sym same) parts.1
              | inr apart ↦ elim apart [ inl less ↦ so_far.below m (omega (arith, past)) | inr more ↦ absurd (omega arith) ]
            ];
            at = λ lt. absurd (omega arith);
          })
    ]
