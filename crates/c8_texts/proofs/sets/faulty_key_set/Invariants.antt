-- The lines before this place are four hexadecimal digits each.
use Rattle.std.proofs.Common.{◌≡◌, ◌++◌, ℕ, List, length}
use Rattle.std.specs.Str.Lines.{lines}
use Rattle.c8_game.specs.Faults.{AreFaultless}
use Rattle.c8_game.specs.Lines.{lines_left}
use Rattle.c8_texts.specs.KeySets.{set_fault}
use Rattle.c8_texts.proofs.sets.faulty_key_set.Given as goal

-- the lines so far are four digits each
abbrev pub invariant-loop-line : goal.invariant-loop-line
invariant-loop-line l = record {
  seen : List (List ℕ);
  cut : lines l.text ≡ seen ++ lines_left l.line-iterator;
  faultless : AreFaultless set_fault seen;
  here : l.place ≡ length seen;
}
