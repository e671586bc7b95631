-- How many packets pass within a time.
use Rattle.std.proofs.Common.{◌≡◌, ◌≤◌, ◌⊎◌, ◌+◌, ◌-◌, ◌*◌, ℕ, List, [], ◌∷◌, length, refl, arith, inl, inr}
use Rattle.c8_relay.specs.Budget.{Pass, Between}

pub paced : (start end full : ℕ) (times : List ℕ) → Pass full times → Between start end times
    → (length times ≡ 0) ⊎ ((1_000 * length times + start ≤ end + 128_000) × (1_000 * length times + full ≤ end + 128_000))
paced start end full [] pass between = inl refl
paced start end full (now ∷ times) pass between =
    let a = pass.1 in let b = pass.2 in let c = pass.3 in let d = between.0 in let e = between.1 in
    elim (paced start end (pass.0 + 1_000) times pass.4 between.2) [
      | inl none ↦ inr (omega (arith, none, a, b, c, d, e), omega (arith, none, a, b, c, d, e))
      | inr some ↦ inr (let s = some.1 in omega (arith, s, a, b, c, d, e), let s = some.1 in omega (arith, s, a, b, c, d, e))
    ]

-- at most 128 datagrams at once, and 1,000 a second
pub most : (start end full : ℕ) (times : List ℕ) → Pass full times → Between start end times → 1_000 * length times ≤ (end - start) + 128_000
most start end full times pass between = elim (paced start end full times pass between) [
  | inl none ↦ omega (arith, none)
  | inr some ↦ (let s = some.0 in omega (arith, s))
]
