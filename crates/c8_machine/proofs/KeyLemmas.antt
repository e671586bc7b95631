-- The lowest key that was released, by the bits of two key sets.
use Rattle.std.proofs.Common.{◌≡◌, ℕ, zero, suc, ◌+◌, ◌-◌, ◌^◌, ◌<◌, ◌≤◌, ◌&&◌, Bool, true, false, not, min, nat_eq, Some, None, refl, sym}
use Rattle.std.proofs.Common.{ap, ◌∙◌, inl, inr, arith}
use Rattle.std.proofs.lemmas.Bool.{cases_lt, cond-true, cond-false}
use Rattle.std.proofs.lemmas.Nat.{and_le_l}
use Rattle.std.proofs.lemmas.Nat.Bits.{bit_at-zero, bit_at_and, bit_at_not, bit_at-lt, bit_at-trailing_zeros}
use Rattle.std.specs.Prelude.{bit_and}
use Rattle.std.specs.Int.{w16, bit_at, bit_not, trailing_zeros}
use Rattle.std.specs.List.{find, range_with_len}
use Rattle.c8_machine.specs.Steps.{is_down}
use Rattle.c8_machine.specs.Frames.{lowest_released}

-- the first number of a range that passes a test
find_first : (p : ℕ → Bool) (from n k : ℕ) → from ≤ k → k < from + n → p k ≡ true → ((j : ℕ) → j < k → p j ≡ false)
    → find p (range_with_len from n) ≡ Some k
find_first p from zero k low high passes before = absurd (omega arith)
find_first p from (suc n) k low high passes before =
    elim (cases_lt from k) [
      | inl below ↦ cond-false (p from) (Some from) (find p (range_with_len (from + 1) n)) (before from below)
          ∙ find_first p (from + 1) n k (omega arith) (omega arith) passes before
      | inr past ↦ let here : from ≡ k = omega arith in let now : p from ≡ true = rw here passes in
          cond-true (p from) (Some from) (find p (range_with_len (from + 1) n)) now ∙ ap Some here
    ]

find_none : (p : ℕ → Bool) (from n : ℕ) → ((j : ℕ) → j < from + n → p j ≡ false) → find p (range_with_len from n) ≡ None
find_none p from zero none = refl
find_none p from (suc n) none =
    cond-false (p from) (Some from) (find p (range_with_len (from + 1) n)) (none from (omega arith))
    ∙ find_none p (from + 1) n (λ j h. none j (omega arith))

both_tests : (x y : ℕ) → x < 2 → y < 2 → (nat_eq x 1 && not (nat_eq y 1)) ≡ nat_eq (min x (1 - y)) 1
both_tests zero zero h k = refl
both_tests zero (suc zero) h k = refl
both_tests (suc zero) zero h k = refl
both_tests (suc zero) (suc zero) h k = refl
both_tests (suc (suc x)) y h k = absurd (omega arith)
both_tests x (suc (suc y)) h k = absurd (omega arith)

abbrev released : ℕ → ℕ → ℕ
released before keys = bit_and before (bit_not w16 keys)

is_released : (before keys key : ℕ) → keys < 2 ^ 16 → key < 16
    → (is_down before key && not (is_down keys key)) ≡ nat_eq (bit_at (released before keys) key) 1
is_released before keys key keys_in key_in =
    both_tests (bit_at before key) (bit_at keys key) (bit_at-lt before key) (bit_at-lt keys key)
    ∙ sym (ap (λ bit. nat_eq bit 1) (bit_at_and before (bit_not w16 keys) key
    ∙ ap (λ bit. min (bit_at before key) bit) (bit_at_not w16 keys key keys_in key_in)))

pub lowest_released-none : (before keys : ℕ) → keys < 2 ^ 16 → released before keys ≡ 0 → None ≡ lowest_released before keys
unfolding lowest_released
lowest_released-none before keys keys_in nothing =
    sym (find_none (λ key. is_down before key && not (is_down keys key)) 0 16
    (λ j h. is_released before keys j keys_in (omega arith) ∙ ap (λ n. nat_eq (bit_at n j) 1) nothing ∙ ap (λ bit. nat_eq bit 1) (bit_at-zero j)))

pub lowest_released-some : (before keys : ℕ) → before < 2 ^ 16 → keys < 2 ^ 16 → (released before keys ≡ 0 → ⊥)
    → Some (trailing_zeros w16 (released before keys)) ≡ lowest_released before keys
unfolding lowest_released
lowest_released-some before keys before_in keys_in something =
    let fits : released before keys < 2 ^ 16 = omega (arith, and_le_l before (bit_not w16 keys)) in
    let lowest = bit_at-trailing_zeros w16 (released before keys) (omega (arith, something)) fits in
    sym (find_first (λ key. is_down before key && not (is_down keys key)) 0 16 (trailing_zeros w16 (released before keys)) (omega arith) lowest.0
    (is_released before keys (trailing_zeros w16 (released before keys)) keys_in lowest.0 ∙ ap (λ bit. nat_eq bit 1) lowest.1)
    (λ j h. is_released before keys j keys_in (omega (arith, lowest.0)) ∙ ap (λ bit. nat_eq bit 1) (lowest.2 j h)))
