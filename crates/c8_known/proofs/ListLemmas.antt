-- Lists that grow by one element, and two that are compared element by element.
use Rattle.std.proofs.Common.{◌≡◌, ℕ, zero, suc, ◌+◌, List, [], ◌∷◌, ◌++◌, false, refl, ap, replicate}
use native.Mathlib.Numerals.{unary_clauses}
use Rattle.c8_known.specs.Fresh.{differ}

pub replicate_more : (n x : ℕ) → replicate (n + 1) x ≡ replicate n x ++ x ∷ []
replicate_more zero x = refl
replicate_more (suc n) x = simp unary_clauses (ap (λ rest. x ∷ rest) (simp unary_clauses at (replicate_more n x)))

pub differ_none : (xs : List ℕ) → differ xs [] ≡ false
unfolding differ
differ_none [] = refl
differ_none (x ∷ xs) = refl
