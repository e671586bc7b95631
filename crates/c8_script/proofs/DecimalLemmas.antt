-- A decimal with one more digit, and decimals that are too large.
use Rattle.std.proofs.Common.{◌≡◌, ℕ, ◌+◌, ◌-◌, ◌*◌, ◌^◌, ◌<◌, ◌≤◌, true, false, ◌&&◌, ◌==◌, List, [], ◌∷◌, ◌++◌, length, take, drop}
use Rattle.std.proofs.Common.{get_or, None, Some, refl, ap, ◌∙◌, arith, add-one, append_assoc, length-append}
use Rattle.std.proofs.Math.Seq.{take-suc}
use Rattle.std.proofs.lemmas.List.{append-nil, take-append-drop}
use Rattle.std.proofs.lemmas.List.Folds.{list_all-append}
use Rattle.std.specs.Char.{is_ascii_digit}
use Rattle.std.specs.List.{list_all}
use native.Mathlib.Numerals.{unary_clauses}
use Rattle.c8_game.specs.Fields.{decimal_number}
use Rattle.c8_script.specs.checked.ScriptWords.{number_in}

decimal_more : (text : List ℕ) (digit : ℕ) → decimal_number (text ++ digit ∷ []) ≡ decimal_number text * 10 + (digit - 48)
decimal_more [] digit = omega arith
decimal_more (first ∷ more) digit =
    let before = decimal_more more digit in
    let longer : 10 ^ length (more ++ digit ∷ []) ≡ 10 ^ length more * 10 = rw (length-append more (digit ∷ [])) (simp unary_clauses refl) in
    rw (before, longer) (grind arith)

pub number_next : (word : List ℕ) (place : ℕ) → place < length word
    → decimal_number (take (place + 1) word) ≡ decimal_number (take place word) * 10 + (get_or word place 0 - 48)
number_next word place within = rw (add-one, take-suc word place 0) (decimal_more (take place word) (get_or word place 0))

pub digits_next : (word : List ℕ) (place : ℕ) → place < length word → list_all is_ascii_digit (take place word) ≡ true
    → is_ascii_digit (get_or word place 0) ≡ true
    → list_all is_ascii_digit (take (place + 1) word) ≡ true
digits_next word place within before here =
    rw (add-one, take-suc word place 0) (list_all-append is_ascii_digit (take place word) (get_or word place 0 ∷ [])
    ∙ ap (λ b. b && (is_ascii_digit (get_or word place 0) && true)) before ∙ ap (λ b. b && true) here)

-- another digit never makes a number smaller
grows : (text more : List ℕ) → decimal_number text ≤ decimal_number (text ++ more)
grows text [] = rw (append-nil text) (omega arith)
grows text (digit ∷ more) =
    let longer = rw (append_assoc text (digit ∷ []) more) at (grows (text ++ digit ∷ []) more) in omega (arith, longer, decimal_more text digit)

no_number : (word : List ℕ) → 2 ^ 64 ≤ decimal_number word → number_in word ≡ None
no_number word great = grind (arith)

-- a decimal that fits in 64 bits
pub its_number : (word : List ℕ) (number : ℕ) → (length word == 0) ≡ false → length word ≤ 20 → list_all is_ascii_digit word ≡ true
    → number ≡ decimal_number word → number < 2 ^ 64 → number_in word ≡ Some number
its_number word number some few digits is fits = grind (arith)

-- if the digits so far are too large for 64 bits, the word has no number
pub too_great : (word : List ℕ) (place : ℕ) → place < length word
    → 2 ^ 64 ≤ decimal_number (take place word) * 10 + (get_or word place 0 - 48) → number_in word ≡ None
too_great word place within past =
    let longer = rw (take-append-drop (place + 1) word) at (grows (take (place + 1) word) (drop (place + 1) word)) in
    let great : 2 ^ 64 ≤ decimal_number word = omega (arith, longer, number_next word place within) in
    no_number word great
