-- A set of keys that grows by one key at a time, and keys when one of them changes.
use Rattle.std.proofs.Common.{◌≡◌, ℕ, ◌+◌, ◌*◌, ◌%◌, ◌^◌, ◌<◌, ◌≤◌, ◌≢◌, Bool, true, false, cond, List, length, sym, ap, subst, ◌∙◌, inl}
use Rattle.std.proofs.Common.{inr, arith, bit_or, w16, slice_index_or, slice_set}
use Rattle.std.specs.Int.{bit_at}
use Rattle.std.specs.Prelude.{◌==◌}
use Rattle.std.proofs.lemmas.Bool.{cases_Bool, cases_lt, eqb-true}
use Rattle.std.proofs.lemmas.Bool.Decides.{nat_tests}
use Rattle.std.proofs.lemmas.List.{get_or-set_same, get_or-set_other}
use Rattle.std.proofs.lemmas.Nat.Bits.{bit_at_set_same, bit_at_set_other}
use Rattle.c8_terminal.specs.declared.press.Press.{Press}
use Rattle.c8_terminal.specs.Held.{press_of}
use Rattle.c8_terminal.specs.Strokes as strokes

-- of the keys below n the set has those that pass, and it has no others
pub record KeysBelow (passes : ℕ → Bool) (n keys : ℕ) : Type 0 where
  pub has : (k : ℕ) → k < n → bit_at keys k ≡ cond (passes k) 1 0
  pub rest : (k : ℕ) → n ≤ k → bit_at keys k ≡ 0

module _ (passes : ℕ → Bool) (n keys : ℕ) (h : KeysBelow passes n keys) where
  pub added : n < 16 → passes n ≡ true → KeysBelow passes (n + 1) (bit_or keys (1 * 2 ^ n % 65536))
  added within passed =
      let same : bit_at (bit_or keys (1 * 2 ^ n % 65536)) n ≡ 1 = bit_at_set_same w16 keys n within in
      let other : (k : ℕ) → k ≢ n → bit_at (bit_or keys (1 * 2 ^ n % 65536)) k ≡ bit_at keys k = bit_at_set_other w16 keys n within in
      record {
        has =
            λ k below.
            elim (cases_lt k n) [
              | inl before ↦ other k (omega arith) ∙ h.has k before
              | inr here ↦
                  let is : n ≡ k = omega arith in
                  subst (λ (j : ℕ). bit_at (bit_or keys (1 * 2 ^ n % 65536)) j ≡ cond (passes j) 1 0) is
                  (same ∙ ap (λ (b : Bool). cond b 1 0) (sym passed))
            ];
        rest = λ k past. other k (omega arith) ∙ h.rest k (omega arith);
      }

  pub left_out : passes n ≡ false → KeysBelow passes (n + 1) keys
  left_out passed =
      record {
        has =
            λ k below.
            elim (cases_lt k n) [
              | inl before ↦ h.has k before
              | inr here ↦
                  let is : n ≡ k = omega arith in
                  subst (λ (j : ℕ). bit_at keys j ≡ cond (passes j) 1 0) is (h.rest n (omega arith) ∙ ap (λ (b : Bool). cond b 1 0) (sym passed))
            ];
        rest = λ k past. h.rest k (omega arith);
      }

abbrev pub known : List Press → ℕ → strokes.Press
known ps k = press_of (slice_index_or ps k (record { down = false; unseen = false; left = 0; since = 0 }))

-- the press of one key was changed by f
pub changed : (ps : List Press) (i : ℕ) (p : Press) (f : strokes.Press → strokes.Press) → i < length ps → press_of p ≡ f (known ps i)
    → (k : ℕ) → known (slice_set ps i p) k ≡ cond (i == k) (f (known ps k)) (known ps k)
changed ps i p f within is k =
    elim (cases_Bool (i == k)) [
      | inl same ↦
          let here : i ≡ k = eqb-true i k same in
          ap (known (slice_set ps i p)) (sym here) ∙ ap press_of (get_or-set_same ps i p _ within) ∙ is ∙ ap (λ (j : ℕ). f (known ps j)) here
          ∙ ap (λ (b : Bool). cond b (f (known ps k)) (known ps k)) (sym same)
      | inr other ↦
          let there : k ≢ i = grind (arith, nat_tests) in
          ap press_of (get_or-set_other ps i k p _ there) ∙ ap (λ (b : Bool). cond b (f (known ps k)) (known ps k)) (sym other)
    ]
