-- How drawing changes the set of lit points, row by row.
use Rattle.std.proofs.Common.{◌≡◌, ℕ, zero, suc, ◌+◌, ◌-◌, ◌*◌, ◌%◌, ◌^◌, ◌<◌, ◌≤◌, ◌&&◌, Bool, true, false, not, cond, min, nat_eq, nat_lt}
use Rattle.std.proofs.Common.{nat_le, List, length, get_or, bit_and, bit_xor, refl, sym, ap, ◌∙◌, inl, inr, arith, add-zero}
use Rattle.std.proofs.Math.Path.{fun_ext}
use Rattle.std.proofs.lemmas.Bool.{cases_lt, cases_Bool, or_cases, or_left, or_right, not-true, not-false, eqb-false, ltb-true, cond-true}
use Rattle.std.proofs.lemmas.Bool.{cond-false, le-leb, lt-leb, lt-ltb, le-ltb, eqb-true, eq-eqb, and_parts, and_from, and_left, and_right}
use Rattle.std.proofs.lemmas.Bool.{false_from_ne_true, true≢false}
use Rattle.std.proofs.lemmas.Nat.{shr-shr, shr_le, and_le_r}
use Rattle.std.proofs.lemmas.Nat.Bits.{bit_at-zero, bit_at_and, bit_at_xor, bit_at-lt, bit_at_above, bit_at_cat_low, bit_at_cat_high}
use Rattle.std.proofs.lemmas.Nat.Bits.{bit_at-trailing_zeros}
use Rattle.std.specs.List.{list_any, range_with_len}
use Rattle.std.specs.Int.{w64, bit_at, trailing_zeros}
use Rattle.c8_screen.specs.Points.{Points, row_has, points_of, sprite, clipped, exclusive_or, meets}
use Rattle.c8_screen.specs.checked.Strip.{strip}

-- ---- the points of a strip

-- the points of a byte whose leftmost one is in column `left`
abbrev has : ℕ → ℕ → ℕ → Bool
has byte left x = cond (nat_le left x && nat_lt x (left + 8)) (nat_eq (bit_at byte (7 - (x - left))) 1) false

strip_bit : (byte left x : ℕ) → bit_at (strip byte left) (63 - x) ≡ bit_at (byte * 2 ^ 56) (left + (63 - x))
strip_bit byte left x = ap (λ n. n % 2) (shr-shr (byte * 2 ^ 56) left (63 - x))

strip_left : (byte left x : ℕ) → byte < 2 ^ 8 → left < 64 → x < left → bit_at (strip byte left) (63 - x) ≡ 0
strip_left byte left x byte_in left_in before = strip_bit byte left x ∙ bit_at_above (byte * 2 ^ 56) 64 (left + (63 - x)) (omega arith) (omega arith)

strip_right : (byte left x : ℕ) → x < 64 → left + 8 ≤ x → bit_at (strip byte left) (63 - x) ≡ 0
strip_right byte left x x_in past =
    strip_bit byte left x ∙ ap (λ n. bit_at n (left + (63 - x))) (sym (add-zero (byte * 2 ^ 56)))
    ∙ bit_at_cat_low byte 56 0 (left + (63 - x)) (omega arith) ∙ bit_at-zero (left + (63 - x))

strip_inside : (byte left x : ℕ) → x < 64 → left ≤ x → x < left + 8 → bit_at (strip byte left) (63 - x) ≡ bit_at byte (7 - (x - left))
strip_inside byte left x x_in from to =
    let place : left + (63 - x) - 56 ≡ 7 - (x - left) = omega arith in
    strip_bit byte left x ∙ ap (λ n. bit_at n (left + (63 - x))) (sym (add-zero (byte * 2 ^ 56)))
    ∙ bit_at_cat_high byte 56 0 (left + (63 - x)) (omega arith) (omega arith) ∙ ap (λ i. bit_at byte i) place

strip_lt : (byte left : ℕ) → byte < 2 ^ 8 → strip byte left < 2 ^ 64
strip_lt byte left byte_in = omega (arith, shr_le (byte * 2 ^ 56) left)

strip_has : (byte left x : ℕ) → byte < 2 ^ 8 → left < 64 → x < 64 → row_has (strip byte left) x ≡ has byte left x
strip_has byte left x byte_in left_in x_in =
    elim (cases_lt x left) [
      | inl before ↦ ap (λ bit. nat_eq bit 1) (strip_left byte left x byte_in left_in before)
          ∙ sym (cond-false _ _ _ (and_left _ _ (lt-leb left x before)))
      | inr from ↦ elim (cases_lt x (left + 8)) [
        | inl to ↦ ap (λ bit. nat_eq bit 1) (strip_inside byte left x x_in from to)
            ∙ sym (cond-true _ _ _ (and_from _ _ (le-leb left x from) (lt-ltb x (left + 8) to)))
        | inr past ↦ ap (λ bit. nat_eq bit 1) (strip_right byte left x x_in past) ∙ sym (cond-false _ _ _ (and_right _ _ (le-ltb x (left + 8) past)))
      ]
    ]

-- ---- two rows, point by point

xor_tests : (p q : ℕ) → p < 2 → q < 2 → nat_eq ((p + q) % 2) 1 ≡ cond (nat_eq q 1) (not (nat_eq p 1)) (nat_eq p 1)
xor_tests zero zero h k = refl
xor_tests zero (suc zero) h k = refl
xor_tests (suc zero) zero h k = refl
xor_tests (suc zero) (suc zero) h k = refl
xor_tests (suc (suc p)) q h k = absurd (omega arith)
xor_tests p (suc (suc q)) h k = absurd (omega arith)

xor_has : (a b x : ℕ) → row_has (bit_xor a b) x ≡ cond (row_has b x) (not (row_has a x)) (row_has a x)
xor_has a b x = ap (λ bit. nat_eq bit 1) (bit_at_xor a b (63 - x))
    ∙ xor_tests (bit_at a (63 - x)) (bit_at b (63 - x)) (bit_at-lt a (63 - x)) (bit_at-lt b (63 - x))

-- a column that both rows have
record BothHave (a b : ℕ) : Type 0 where
  column : ℕ
  within : column < 64
  left : row_has a column ≡ true
  right : row_has b column ≡ true

both_have : (a b : ℕ) → b < 2 ^ 64 → not (nat_eq (bit_and a b) 0) ≡ true → BothHave a b
both_have a b b_in met =
    let something : bit_and a b ≡ 0 → ⊥ = eqb-false (bit_and a b) 0 (not-true _ met) in
    let fits : bit_and a b < 2 ^ 64 = omega (arith, and_le_r a b) in
    let lowest = bit_at-trailing_zeros w64 (bit_and a b) (omega (arith, something)) fits in
    let place : ℕ = trailing_zeros w64 (bit_and a b) in
    let place_in : place < 64 = lowest.0 in
    let back : 63 - (63 - place) ≡ place = omega arith in
    let both : min (bit_at a place) (bit_at b place) ≡ 1 = sym (bit_at_and a b place) ∙ lowest.1 in
    let left_is : bit_at a place ≡ 1 = omega (arith, both, bit_at-lt a place, bit_at-lt b place) in
    let right_is : bit_at b place ≡ 1 = omega (arith, both, bit_at-lt a place, bit_at-lt b place) in
    record {
      column = 63 - place;
      within = omega arith;
      left = eq-eqb _ _ (ap (λ i. bit_at a i) back ∙ left_is);
      right = eq-eqb _ _ (ap (λ i. bit_at b i) back ∙ right_is);
    }

have_both : (a b x : ℕ) → row_has a x ≡ true → row_has b x ≡ true → not (nat_eq (bit_and a b) 0) ≡ false → ⊥
have_both a b x left right none =
    let zero_and : bit_and a b ≡ 0 = eqb-true _ _ (not-false _ none) in
    let one : min (bit_at a (63 - x)) (bit_at b (63 - x)) ≡ 0 =
    sym (bit_at_and a b (63 - x)) ∙ ap (λ n. bit_at n (63 - x)) zero_and ∙ bit_at-zero (63 - x) in
    omega (arith, one, eqb-true _ _ left, eqb-true _ _ right)

-- ---- whether a number in a range passes a test

any_at : (p : ℕ → Bool) (from n k : ℕ) → from ≤ k → k < from + n → p k ≡ true → list_any p (range_with_len from n) ≡ true
any_at p from zero k low high passes = absurd (omega arith)
any_at p from (suc n) k low high passes =
    elim (cases_lt from k) [
      | inl below ↦ or_right (p from) _ (any_at p (from + 1) n k (omega arith) (omega arith) passes)
      | inr past ↦ let here : from ≡ k = omega arith in or_left (p from) _ (rw here passes)
    ]

record Passing (p : ℕ → Bool) (from n : ℕ) : Type 0 where
  number : ℕ
  high : number < from + n
  passes : p number ≡ true

any_from : (p : ℕ → Bool) (from n : ℕ) → list_any p (range_with_len from n) ≡ true → Passing p from n
any_from p from zero some = absurd (true≢false (sym some))
any_from p from (suc n) some =
    elim (or_cases (p from) _ some) [
      | inl here ↦ record { number = from; high = omega arith; passes = here }
      | inr later ↦ let rest = any_from p (from + 1) n later in record { number = rest.number; high = omega (arith, rest.high); passes = rest.passes }
    ]

-- ---- the rows after the first k bytes

-- whether a row of the screen and a byte's strip have a point in common
abbrev pub common : List ℕ → List ℕ → ℕ → ℕ → ℕ → Bool
common rows bytes left top j = not (nat_eq (bit_and (get_or rows (top + j) 0) (strip (get_or bytes j 0) left)) 0)

pub record Common (rows bytes : List ℕ) (left top k : ℕ) : Type 0 where
  pub row : ℕ
  pub below : row < k
  pub is : common rows bytes left top row ≡ true

pub record IsDrawn (initial rows bytes : List ℕ) (left top k : ℕ) (met : Bool) : Type 0 where
  pub size : length rows ≡ 32
  pub drawn : (j : ℕ) → j < k → get_or rows (top + j) 0 ≡ bit_xor (get_or initial (top + j) 0) (strip (get_or bytes j 0) left)
  pub above : (y : ℕ) → y < top → get_or rows y 0 ≡ get_or initial y 0
  pub below : (y : ℕ) → top + k ≤ y → get_or rows y 0 ≡ get_or initial y 0
  pub some : met ≡ true → Common initial bytes left top k
  pub none : met ≡ false → (j : ℕ) → j < k → common initial bytes left top j ≡ false

-- ---- the points after all bytes

and_true : (c d : Bool) → d ≡ true → (c && d) ≡ c
and_true true d e = e
and_true false d e = refl

abbrev sprite_of : List ℕ → ℕ → ℕ → Points
sprite_of bytes left top = sprite (length bytes) (λ k. get_or bytes k 0) left top

inside : (bytes : List ℕ) (left top x y : ℕ) → top ≤ y → y < top + length bytes → sprite_of bytes left top x y ≡ has (get_or bytes (y - top) 0) left x
inside bytes left top x y from to =
    ap (λ c. cond c (nat_eq (bit_at (get_or bytes (y - top) 0) (7 - (x - left))) 1) false)
    (and_true (nat_le left x && nat_lt x (left + 8)) _ (and_from _ _ (le-leb top y from) (lt-ltb y (top + length bytes) to)))

above : (bytes : List ℕ) (left top x y : ℕ) → y < top → sprite_of bytes left top x y ≡ false
above bytes left top x y before = cond-false _ _ _ (and_right _ _ (and_left _ _ (lt-leb top y before)))

below : (bytes : List ℕ) (left top x y : ℕ) → top + length bytes ≤ y → sprite_of bytes left top x y ≡ false
below bytes left top x y past = cond-false _ _ _ (and_right _ _ (and_right _ _ (le-ltb y (top + length bytes) past)))

abbrev points : List ℕ → Points
points rows = points_of (record { rows = rows })

module _ (initial rows bytes : List ℕ) (left top count : ℕ) (met : Bool) (left_in : left < 64) (top_in : top < 32)
    (count_is : count ≡ min (length bytes) (32 - top))
    (bytes_in : (j : ℕ) → get_or bytes j 0 < 2 ^ 8) (all : IsDrawn initial rows bytes left top count met) where
  at_row : (x y : ℕ) → x < 64 → y < 32 → row_has (get_or rows y 0) x
      ≡ cond (sprite_of bytes left top x y) (not (row_has (get_or initial y 0) x)) (row_has (get_or initial y 0) x)
  at_row x y x_in y_in =
      elim (cases_lt y top) [
        | inl before ↦ ap (λ row. row_has row x) (all.above y before) ∙ sym (cond-false _ _ _ (above bytes left top x y before))
        | inr from ↦ elim (cases_lt y (top + length bytes)) [
          | inr past ↦ ap (λ row. row_has row x) (all.below y (omega arith)) ∙ sym (cond-false _ _ _ (below bytes left top x y past))
          | inl to ↦
              let back : top + (y - top) ≡ y = omega arith in
              let row_is : get_or rows y 0 ≡ bit_xor (get_or initial y 0) (strip (get_or bytes (y - top) 0) left) =
              rw back at (all.drawn (y - top) (omega arith)) in
              let strip_is : row_has (strip (get_or bytes (y - top) 0) left) x ≡ sprite_of bytes left top x y =
              strip_has (get_or bytes (y - top) 0) left x (bytes_in (y - top)) left_in x_in ∙ sym (inside bytes left top x y from to) in
              ap (λ row. row_has row x) row_is ∙ xor_has (get_or initial y 0) (strip (get_or bytes (y - top) 0) left) x
              ∙ ap (λ c. cond c (not (row_has (get_or initial y 0) x)) (row_has (get_or initial y 0) x)) strip_is
        ]
      ]

  by_screen : (x y : ℕ) (c : Bool) → (nat_lt x 64 && nat_lt y 32) ≡ c
      → cond c (row_has (get_or rows y 0) x) false
      ≡ cond (cond c (sprite_of bytes left top x y) false) (not (cond c (row_has (get_or initial y 0) x) false))
      (cond c (row_has (get_or initial y 0) x) false)
  by_screen x y false e = refl
  by_screen x y true e = let parts = and_parts _ _ e in at_row x y (ltb-true x 64 parts.0) (ltb-true y 32 parts.1)

  pub points_drawn : points rows ≡ exclusive_or (points initial) (clipped (sprite_of bytes left top))
  points_drawn = fun_ext (λ x. fun_ext (λ y. by_screen x y (nat_lt x 64 && nat_lt y 32) refl))

  in_both : (x y : ℕ) → x < 64 → y < 32 → row_has (get_or initial y 0) x ≡ true → sprite_of bytes left top x y ≡ true
      → (points initial x y && clipped (sprite_of bytes left top) x y) ≡ true
  in_both x y x_in y_in lit drawn =
      let on : (nat_lt x 64 && nat_lt y 32) ≡ true = and_from _ _ (lt-ltb x 64 x_in) (lt-ltb y 32 y_in) in
      and_from _ _ (cond-true _ _ _ on ∙ lit) (cond-true _ _ _ on ∙ drawn)

  meets_some : met ≡ true → meets (points initial) (clipped (sprite_of bytes left top)) ≡ true
  unfolding meets
  meets_some e =
      let found = all.some e in
      let y : ℕ = top + found.row in
      let y_in : top + found.row < 32 = omega (arith, found.below) in
      let both = both_have (get_or initial (top + found.row) 0) (strip (get_or bytes found.row 0) left)
      (strip_lt (get_or bytes found.row 0) left (bytes_in found.row)) found.is in
      let place : top + found.row - top ≡ found.row = omega arith in
      let drawn : sprite_of bytes left top both.column (top + found.row) ≡ true =
      inside bytes left top both.column (top + found.row) (omega arith) (omega (arith, found.below))
      ∙ ap (λ j. has (get_or bytes j 0) left both.column) place
      ∙ sym (strip_has (get_or bytes found.row 0) left both.column (bytes_in found.row) left_in both.within) ∙ both.right in
      any_at (λ y. list_any (λ x. points initial x y && clipped (sprite_of bytes left top) x y) (range_with_len 0 64)) 0 32
      (top + found.row) (omega arith) y_in
      (any_at (λ x. points initial x (top + found.row) && clipped (sprite_of bytes left top) x (top + found.row)) 0 64 both.column
      (omega arith) both.within
      (in_both both.column (top + found.row) both.within y_in both.left drawn))

  not_in_both : met ≡ false → (x y : ℕ) → x < 64 → y < 32 → row_has (get_or initial y 0) x ≡ true → sprite_of bytes left top x y ≡ true → ⊥
  not_in_both e x y x_in y_in lit drawn =
      elim (cases_lt y top) [
        | inl before ↦ true≢false (sym drawn ∙ above bytes left top x y before)
        | inr from ↦ elim (cases_lt y (top + length bytes)) [
          | inr past ↦ true≢false (sym drawn ∙ below bytes left top x y past)
          | inl to ↦
              let back : top + (y - top) ≡ y = omega arith in
              let none : not (nat_eq (bit_and (get_or initial y 0) (strip (get_or bytes (y - top) 0) left)) 0) ≡ false =
              rw back at (all.none e (y - top) (omega arith)) in
              have_both (get_or initial y 0) (strip (get_or bytes (y - top) 0) left) x lit
              (strip_has (get_or bytes (y - top) 0) left x (bytes_in (y - top)) left_in x_in ∙ sym (inside bytes left top x y from to) ∙ drawn) none
        ]
      ]

  meets_none : met ≡ false → meets (points initial) (clipped (sprite_of bytes left top)) ≡ false
  unfolding meets
  meets_none e = false_from_ne_true _ (λ some.
      let y = any_from (λ y. list_any (λ x. points initial x y && clipped (sprite_of bytes left top) x y) (range_with_len 0 64)) 0 32 some in
      let x = any_from (λ x. points initial x y.number && clipped (sprite_of bytes left top) x y.number) 0 64 y.passes in
      let parts = and_parts _ _ x.passes in
      let on : (nat_lt x.number 64 && nat_lt y.number 32) ≡ true =
      and_from _ _ (lt-ltb x.number 64 (omega (arith, x.high))) (lt-ltb y.number 32 (omega (arith, y.high))) in
      not_in_both e x.number y.number (omega (arith, x.high)) (omega (arith, y.high)) (sym (cond-true _ _ _ on) ∙ parts.0)
      (sym (cond-true _ _ _ on) ∙ parts.1))

  pub meets_drawn : met ≡ meets (points initial) (clipped (sprite_of bytes left top))
  meets_drawn = elim (cases_Bool met) [ inl e ↦ e ∙ sym (meets_some e) | inr e ↦ e ∙ sym (meets_none e) ]
