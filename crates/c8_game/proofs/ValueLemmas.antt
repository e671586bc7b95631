-- A decimal with one more digit.
use Rattle.std.proofs.Common.{◌≡◌, ℕ, true, nat_lt, ◌&&◌, ◌+◌, ◌-◌, ◌*◌, ◌^◌, ◌<◌, List, [], ◌∷◌, ◌++◌, length, take, get_or, refl, arith}
use Rattle.std.proofs.Common.{length-append, add-one}
use Rattle.std.proofs.Math.Seq.{take-suc}
use Rattle.std.specs.Bool.{IsTrue}
use Rattle.std.specs.Prelude.{nat_le}
use Rattle.std.specs.List.{list_all}
use Rattle.std.specs.Char.{is_ascii_digit}
use Rattle.std.proofs.lemmas.Bool.{and_parts, leb-true}
use Rattle.std.proofs.lemmas.List.Sums.{AllPass-from_list_all}
use native.Mathlib.Numerals.{unary_clauses}
use Rattle.c8_game.specs.Fields.{is_decimal, decimal_number}

pub decimal_more : (text : List ℕ) (digit : ℕ) → decimal_number (text ++ digit ∷ []) ≡ decimal_number text * 10 + (digit - 48)
decimal_more [] digit = omega arith
decimal_more (first ∷ more) digit =
    let ih = decimal_more more digit in
    let longer : 10 ^ length (more ++ digit ∷ []) ≡ 10 ^ length more * 10 = rw (length-append more (digit ∷ [])) (simp unary_clauses refl) in
    rw (ih, longer) (grind arith)

pub decimal_next : (text : List ℕ) (place : ℕ) → place < length text
    → decimal_number (take (place + 1) text) ≡ decimal_number (take place text) * 10 + (get_or text place 0 - 48)
decimal_next text place within = rw (add-one, take-suc text place 0) (decimal_more (take place text) (get_or text place 0))

digit_below : (byte : ℕ) → is_ascii_digit byte ≡ true → byte - 48 < 10
digit_below byte digit = let ends = and_parts (nat_le 48 byte) (nat_le byte 57) digit in
    omega (arith, leb-true 48 byte ends.0, leb-true byte 57 ends.1)

pub ten_more : (number digit places : ℕ) → number < 10 ^ places → digit < 10 → number * 10 + digit < 10 ^ (places + 1)
ten_more number digit places below small = simp unary_clauses (omega arith)

-- each byte of a decimal is a digit
pub digit_small : (text : List ℕ) → IsTrue (is_decimal text) → (place : ℕ) → place < length text → get_or text place 0 - 48 < 10
digit_small text decimal place within =
    let digits = AllPass-from_list_all is_ascii_digit text
    (and_parts (nat_lt 0 (length text) && nat_le (length text) 20) (list_all is_ascii_digit text) decimal).1 in
    let digit : is_ascii_digit (get_or text place 0) ≡ true = digits place 0 within in
    digit_below (get_or text place 0) digit
