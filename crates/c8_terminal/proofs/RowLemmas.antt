-- Two numbers are equal if they stand for the same points of a row.
use Rattle.std.proofs.Common.{◌≡◌, ℕ, zero, suc, ◌-◌, ◌^◌, ◌<◌, Bool, true, false, refl, sym, ap, ◌∙◌, inl, inr, arith}
use Rattle.std.specs.Prelude.{◌==◌}
use Rattle.std.specs.Int.{bit_at}
use Rattle.std.proofs.lemmas.Bool.{cases_Bool, eqb-true, eq-eqb, false_from_ne_true}
use Rattle.std.proofs.lemmas.Nat.Bits.{bit_at-lt, same_from_bits_below}
use Rattle.c8_screen.specs.Points.{Points, row_has}
use Rattle.c8_terminal.specs.Painting.{alike, same_row}
use Rattle.c8_terminal.proofs.RangeLemmas.{all_at, all_from}

pub alike_is : (p q : Bool) → alike p q ≡ true → p ≡ q
alike_is true true e = refl
alike_is true false e = absurd cc
alike_is false true e = absurd cc
alike_is false false e = refl

pub alike_refl : (p : Bool) → alike p p ≡ true
alike_refl true = refl
alike_refl false = refl

-- the points of a row that is the same in both
pub same_points : (a b : Points) (y x : ℕ) → same_row a b y ≡ true → x < 64 → a x y ≡ b x y
unfolding same_row
same_points a b y x same within = alike_is (a x y) (b x y) (all_at (λ x. alike (a x y) (b x y)) 0 64 x same (omega arith) within)

pub same_with_itself : (a : Points) (y : ℕ) → same_row a a y ≡ true
unfolding same_row
same_with_itself a y = all_from (λ x. alike (a x y) (a x y)) 0 64 (λ x low high. alike_refl (a x y))

one_bit : (p q : ℕ) → p < 2 → q < 2 → (p == 1) ≡ (q == 1) → p ≡ q
one_bit zero zero h k e = refl
one_bit zero (suc zero) h k e = absurd cc
one_bit (suc zero) zero h k e = absurd cc
one_bit (suc zero) (suc zero) h k e = refl
one_bit (suc (suc p)) q h k e = absurd (omega (arith, h))
one_bit p (suc (suc q)) h k e = absurd (omega (arith, k))

bits_same : (v w : ℕ) → ((x : ℕ) → x < 64 → row_has v x ≡ row_has w x) → (i : ℕ) → i < 64 → bit_at v i ≡ bit_at w i
bits_same v w each i within =
    let back : 63 - (63 - i) ≡ i = omega arith in
    let e : (bit_at v i == 1) ≡ (bit_at w i == 1) = rw back at (each (63 - i) (omega arith)) in
    one_bit (bit_at v i) (bit_at w i) (bit_at-lt v i) (bit_at-lt w i) e

module _ (a b : Points) (y v w : ℕ) (v_in : v < 2 ^ 64) (w_in : w < 2 ^ 64) (v_is : (x : ℕ) → x < 64 → row_has v x ≡ a x y)
    (w_is : (x : ℕ) → x < 64 → row_has w x ≡ b x y) where
  equal_rows : v ≡ w → same_row a b y ≡ true
  unfolding same_row
  equal_rows e =
      all_from (λ x. alike (a x y) (b x y)) 0 64
      (λ x low high.
      let points : a x y ≡ b x y = sym (v_is x (omega (arith, high))) ∙ ap (λ (n : ℕ). row_has n x) e ∙ w_is x (omega (arith, high)) in
      ap (λ (q : Bool). alike (a x y) q) (sym points) ∙ alike_refl (a x y))

  same_numbers : same_row a b y ≡ true → v ≡ w
  same_numbers same = same_from_bits_below 64 v w v_in w_in
      (bits_same v w (λ x within. v_is x within ∙ same_points a b y x same within ∙ sym (w_is x within)))

  pub compared : (v == w) ≡ same_row a b y
  compared =
      elim (cases_Bool (same_row a b y)) [
        | inl same ↦ eq-eqb v w (same_numbers same) ∙ sym same
        | inr differ ↦ false_from_ne_true (v == w) (λ e. absurd (let bad : true ≡ false = sym (equal_rows (eqb-true v w e)) ∙ differ in cc))
            ∙ sym differ
      ]
