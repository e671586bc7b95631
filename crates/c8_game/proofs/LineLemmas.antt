-- The first line of a text, by the place of its first line feed; and the line at a later place.
use Rattle.std.proofs.Common.{◌≡◌, ℕ, ◌<◌, ◌≤◌, zero, suc, Bool, nat_eq, length, List, [], ◌∷◌, Option, None, Some, Bor, MatchOption, refl}
use Rattle.std.proofs.Common.{sym, ap, ◌∙◌, arith, rules, inl, inr}
use Rattle.std.specs.Iterator.{Yields, YieldsFirstRef}
use Rattle.std.specs.List.{slice_get, position, position_or_len, before_first, after_first, slice_split}
use Rattle.std.specs.Option.{IsSome, option_map}
use Rattle.std.specs.Str.Lines.{lines, lines_of_parts, strip_carriage_return}
use Rattle.std.proofs.lemmas.Bool.{cases_lt}
use Rattle.std.proofs.lemmas.List.Splits.{slice_split_none, slice_split_first, length-slice_split}
use Rattle.std.proofs.lemmas.List.Sums.{fails_before_first}
use Rattle.std.proofs.lemmas.Option.{slice_get_past}
use Rattle.c8_game.specs.Lines.{lines_left}
use Rattle.c8_game.specs.declared.text.lines.Lines.{Lines}

-- a place that is found lies within the list
pub within_if_some : {X : Type 0} (p : X → Bool) (xs : List X) → IsSome (position p xs) → position_or_len p xs < length xs
within_if_some p xs some = elim (cases_lt (position_or_len p xs) (length xs)) [ inl within ↦ within | inr past ↦ search (rules, some) ]

past_if_none : {X : Type 0} (p : X → Bool) (xs : List X) → position p xs ≡ None → length xs ≤ position_or_len p xs
past_if_none p xs none = elim (cases_lt (position_or_len p xs) (length xs)) [ inl within ↦ search (rules, none, within) | inr past ↦ past ]

pub part_and_more : (part : List ℕ) (parts : List (List ℕ)) → 0 < length parts
    → lines_of_parts (part ∷ parts) ≡ strip_carriage_return part ∷ lines_of_parts parts
part_and_more part [] none = absurd (omega arith)
part_and_more part (next ∷ more) some = refl

pub lines-fed : (text : List ℕ) → IsSome (position (λ b. nat_eq b 10) text)
    → lines text ≡ strip_carriage_return (before_first (λ b. nat_eq b 10) text) ∷ lines (after_first (λ b. nat_eq b 10) text)
lines-fed text fed =
    let within = within_if_some (λ b. nat_eq b 10) text fed in
    ap lines_of_parts (slice_split_first (λ b. nat_eq b 10) text 0 within)
    ∙ part_and_more (before_first (λ b. nat_eq b 10) text) (slice_split (λ b. nat_eq b 10) (after_first (λ b. nat_eq b 10) text))
    (omega (arith, length-slice_split (λ b. nat_eq b 10) (after_first (λ b. nat_eq b 10) text)))

one_part : (text : List ℕ) → 0 < length text → lines_of_parts (text ∷ []) ≡ text ∷ []
one_part [] some = absurd (omega arith)
one_part (byte ∷ more) some = grind arith

pub lines-unfed : (text : List ℕ) → 0 < length text → position (λ b. nat_eq b 10) text ≡ None → lines text ≡ text ∷ []
lines-unfed text some unfed =
    let past = past_if_none (λ b. nat_eq b 10) text unfed in
    ap lines_of_parts (slice_split_none (λ b. nat_eq b 10) text
    (λ k d within. fails_before_first (λ b. nat_eq b 10) text k d (omega arith))) ∙ one_part text some

one_less : (line : Option (Bor (List ℕ))) (passed place : ℕ) → MatchOption line (suc passed ≤ suc place) (λ _. suc passed ≡ suc place)
    → MatchOption line (passed ≤ place) (λ _. passed ≡ place)
one_less None passed place few = omega (arith, few)
one_less (Some line) passed place same = omega (arith, same)

-- after calls that passed as many lines as a place says, or all lines, the next call gives the line at that place
pub line_after : (first last left : Lines) (passed : List (Bor (List ℕ))) (line : Option (Bor (List ℕ))) (place : ℕ)
    → Yields (YieldsFirstRef lines_left) first passed last → YieldsFirstRef lines_left last line left
    → MatchOption line (length passed ≤ place) (λ _. length passed ≡ place) → option_map (λ l. l.now) line ≡ slice_get (lines_left first) place
line_after first last left [] None place same step few = rw (same, step.0) (sym (slice_get_past [] place (omega arith)))
line_after first last left [] (Some line) zero same step few = rw (same, step) refl
line_after first last left [] (Some line) (suc place) same step few = absurd (omega (arith, few))
line_after first last left (one ∷ passed) None zero (next, begins, more) step few = absurd (omega (arith, few))
line_after first last left (one ∷ passed) (Some line) zero (next, begins, more) step few = absurd (omega (arith, few))
line_after first last left (one ∷ passed) line (suc place) (next, begins, more) step few =
    rw begins (line_after next last left passed line place more step (one_less line (length passed) place few))
