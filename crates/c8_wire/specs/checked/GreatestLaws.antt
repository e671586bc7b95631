-- Checked, not believed: the greatest number that passes a test is within its bound; it passes if 0
-- does; no greater one does.
use Rattle.std.proofs.Common.{◌≡◌, ℕ, zero, suc, ◌≤◌, Bool, true, false, cond, refl, sym, ap, ◌∙◌, inl, inr, arith}
use Rattle.std.proofs.lemmas.Bool.{cases_lt, both_ways}
use Rattle.c8_wire.specs.Greatest.{greatest}

pick : (P : ℕ → Type 0) (b : Bool) (x y : ℕ) → (b ≡ true → P x) → (b ≡ false → P y) → P (cond b x y)
pick P true x y when unless = when refl
pick P false x y when unless = unless refl

pub greatest_le : (test : ℕ → Bool) (n : ℕ) → greatest test n ≤ n
unfolding greatest
greatest_le test zero = omega arith
greatest_le test (suc n) = pick (λ m. m ≤ suc n) (test (suc n)) (suc n) (greatest test n) (λ passes. omega arith)
    (λ fails. let less = greatest_le test n in omega (arith, less))

pub greatest_passes : (test : ℕ → Bool) (n : ℕ) → test zero ≡ true → test (greatest test n) ≡ true
unfolding greatest
greatest_passes test zero least = least
greatest_passes test (suc n) least = pick (λ m. test m ≡ true) (test (suc n)) (suc n) (greatest test n) (λ passes. passes)
    (λ fails. greatest_passes test n least)

pub greatest_is : (test : ℕ → Bool) (n m : ℕ) → m ≤ n → test m ≡ true → m ≤ greatest test n
unfolding greatest
greatest_is test zero m le passes = le
greatest_is test (suc n) m le passes =
    pick (λ g. m ≤ g) (test (suc n)) (suc n) (greatest test n) (λ here. le)
    (λ fails. elim (cases_lt n m) [
      | inl past ↦ let same : m ≡ suc n = omega (arith, past, le) in absurd (both_ways (test (suc n)) fails (sym (ap test same) ∙ passes))
      | inr within ↦ greatest_is test n m within passes
    ])
