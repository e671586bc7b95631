-- The points of a screen, by its rows.
use Rattle.std.proofs.Common.{◌≡◌, ℕ, ◌-◌, ◌&&◌, Bool, true, false, nat_eq, nat_lt, cond, get_or, refl, ap, ◌∙◌, inl, inr}
use Rattle.std.proofs.Math.ListN.{replicate}
use Rattle.std.proofs.Math.Path.{fun_ext}
use Rattle.std.proofs.lemmas.List.{get_or-replicate, get_or_past}
use Rattle.std.proofs.lemmas.Bool.{cases_lt}
use Rattle.std.proofs.lemmas.Nat.Bits.{bit_at-zero}
use Rattle.c8_screen.specs.Points.{points_of, no_points, row_has}

-- each of 32 zero rows is zero, and so is every row beyond them
zero_row : (y : ℕ) → get_or {A = ℕ} (replicate 32 0) y 0 ≡ 0
zero_row y = elim (cases_lt y 32) [ inl within ↦ get_or-replicate 32 y 0 0 within | inr past ↦ get_or_past (replicate 32 0) y 0 past ]

both_false : (b : Bool) → cond b false false ≡ false
both_false true = refl
both_false false = refl

no_point : (x y : ℕ) → points_of (record { rows = replicate 32 0 }) x y ≡ false
no_point x y =
    ap (λ row. cond (nat_lt x 64 && nat_lt y 32) (row_has row x) false) (zero_row y)
    ∙ ap (λ bit. cond (nat_lt x 64 && nat_lt y 32) (nat_eq bit 1) false) (bit_at-zero (63 - x))
    ∙ both_false (nat_lt x 64 && nat_lt y 32)

pub points_of-dark : points_of (record { rows = replicate 32 0 }) ≡ no_points
points_of-dark = fun_ext (λ x. fun_ext (λ y. no_point x y))
