-- Checked, not believed: how many lines a text has at most.
use Rattle.std.proofs.Common.{ℕ, ◌+◌, ◌≤◌, ◌==◌, List, [], ◌∷◌, length, arith}
use Rattle.std.specs.List.{slice_split}
use Rattle.std.specs.Str.Lines.{lines, lines_of_parts}
use Rattle.std.proofs.lemmas.List.Splits.{length-slice_split}
use Rattle.std.proofs.lemmas.List.Sums.{count_by-le-length}

of_parts : (parts : List (List ℕ)) → length (lines_of_parts parts) ≤ length parts
of_parts [] = omega arith
of_parts ([] ∷ []) = omega arith
of_parts ((byte ∷ part) ∷ []) = grind arith
of_parts (part ∷ next ∷ more) = omega (arith, of_parts (next ∷ more))

-- at most one more than it has bytes
pub few_lines : (text : List ℕ) → length (lines text) ≤ length text + 1
few_lines text = omega (
  arith,
  of_parts (slice_split (λ b. b == 10) text),
  length-slice_split (λ b. b == 10) text,
  count_by-le-length (λ b. b == 10) text,
)
