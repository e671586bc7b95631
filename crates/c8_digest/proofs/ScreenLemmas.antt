-- A row of the screen is the number that its columns spell.
use Rattle.std.proofs.Common.{◌≡◌, ℕ, zero, suc, ◌+◌, ◌-◌, ◌*◌, ◌/◌, ◌%◌, ◌^◌, ◌<◌, List, [], ◌∷◌, ◌++◌, Bool, refl, sym, ap, ◌∙◌, arith}
use Rattle.std.specs.Prelude.{◌==◌, if◌then◌else◌}
use Rattle.std.specs.Int.{bit_at, to_be_bytes, w64}
use Rattle.std.specs.List.{flat_map, range_with_len}
use Rattle.std.proofs.lemmas.Grind.{flat_map-append}
use Rattle.std.proofs.lemmas.List.{append_assoc, append-nil}
use Rattle.std.proofs.Math.Nat.{div-eq_of_lt, div-div-eq-div-mul, pow-suc}
use Rattle.c8_screen.specs.Points.{Points, row_has}
use Rattle.c8_digest.specs.StateBytes.{columns}

one_digit : (d : ℕ) → d < 2 → (if d == 1 then 1 else 0) ≡ d
one_digit zero low = refl
one_digit (suc zero) low = refl
one_digit (suc (suc d)) low = absurd (omega (arith, low))

-- one more digit
digit : (q : ℕ) → 2 * (q / 2) + (if q % 2 == 1 then 1 else 0) ≡ q
digit q = let low : q % 2 < 2 = omega arith in omega (arith, one_digit (q % 2) low)

half : (w k : ℕ) → w / 2 ^ suc k ≡ w / 2 ^ k / 2
half w k = ap (λ (m : ℕ). w / m) (pow-suc 2 k) ∙ sym (div-div-eq-div-mul w (2 ^ k) 2)

-- the columns before one are the upper digits of the row
columns_down : (points : Points) (y w n rest : ℕ) → n + rest ≡ 64 → w < 2 ^ 64 → ((x : ℕ) → x < 64 → row_has w x ≡ points x y)
    → columns points y n ≡ w / 2 ^ rest
unfolding columns
columns_down points y w zero rest all low same = let whole : rest ≡ 64 = omega (arith, all) in sym (div-eq_of_lt (rw whole low))
columns_down points y w (suc n) rest all low same =
    let before : columns points y n ≡ w / 2 ^ rest / 2 = columns_down points y w n (suc rest) (omega (arith, all)) low same ∙ half w rest in
    let place : 63 - n ≡ rest = omega (arith, all) in
    let here : (w / 2 ^ rest % 2 == 1) ≡ points n y = ap (λ (k : ℕ). bit_at w k == 1) (sym place) ∙ same n (omega (arith, all)) in
    ap (λ (m : ℕ). 2 * m + (if points n y then 1 else 0)) before
    ∙ ap (λ (b : Bool). 2 * (w / 2 ^ rest / 2) + (if b then 1 else 0)) (sym here) ∙ digit (w / 2 ^ rest)

pub row_number : (points : Points) (y w : ℕ) → w < 2 ^ 64 → ((x : ℕ) → x < 64 → row_has w x ≡ points x y) → columns points y 64 ≡ w
row_number points y w low same = columns_down points y w 64 0 refl low same ∙ omega arith

range_suc : (a n : ℕ) → range_with_len a (suc n) ≡ range_with_len a n ++ (a + n) ∷ []
range_suc a zero = let same : a ≡ a + 0 = omega arith in ap (λ (m : ℕ). m ∷ []) same
range_suc a (suc n) =
    let same : a + 1 + n ≡ a + suc n = omega arith in
    ap (λ (rest : List ℕ). a ∷ rest) (range_suc (a + 1) n ∙ ap (λ (m : ℕ). range_with_len (a + 1) n ++ m ∷ []) same)

range_next : (n : ℕ) → range_with_len 0 (n + 1) ≡ range_with_len 0 n ++ n ∷ []
range_next n =
    let one : n + 1 ≡ suc n = omega arith in
    let same : 0 + n ≡ n = omega arith in
    ap (range_with_len 0) one ∙ range_suc 0 n ∙ ap (λ (m : ℕ). range_with_len 0 n ++ m ∷ []) same

-- the rows before one, and that one
pub rows_more : (points : Points) (before : List ℕ) (y w : ℕ) → w < 2 ^ 64 → ((x : ℕ) → x < 64 → row_has w x ≡ points x y)
    → (before ++ flat_map (λ k. to_be_bytes w64 (columns points k 64)) (range_with_len 0 y)) ++ to_be_bytes w64 w
    ≡ before ++ flat_map (λ k. to_be_bytes w64 (columns points k 64)) (range_with_len 0 (y + 1))
rows_more points before y w low same =
    let rows : ℕ → List ℕ = λ k. to_be_bytes w64 (columns points k 64) in
    append_assoc before (flat_map rows (range_with_len 0 y)) (to_be_bytes w64 w)
    ∙ ap (λ (bytes : List ℕ). before ++ bytes)
    (ap (λ (n : ℕ). flat_map rows (range_with_len 0 y) ++ to_be_bytes w64 n) (sym (row_number points y w low same))
    ∙ ap (λ (last : List ℕ). flat_map rows (range_with_len 0 y) ++ last) (sym (append-nil (rows y)))
    ∙ sym (flat_map-append rows (range_with_len 0 y) (y ∷ []))
    ∙ ap (flat_map rows) (sym (range_next y)))
