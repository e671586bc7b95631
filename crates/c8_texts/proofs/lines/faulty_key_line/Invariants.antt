-- The lines before this place are key lines of the game, and no more than its frames.
use Rattle.std.proofs.Common.{◌≡◌, ◌≤◌, ◌++◌, ℕ, List, length}
use Rattle.std.specs.Str.Lines.{lines}
use Rattle.c8_game.specs.Faults.{AreFaultless}
use Rattle.c8_game.specs.Lines.{lines_left}
use Rattle.c8_texts.specs.KeyLines.{key_line_fault}
use Rattle.c8_texts.proofs.lines.faulty_key_line.Given as goal

-- the lines so far have no fault, and each is a frame
abbrev pub invariant-loop-line : goal.invariant-loop-line
invariant-loop-line l = record {
  seen : List (List ℕ);
  cut : lines l.keys ≡ seen ++ lines_left l.line-iterator;
  faultless : AreFaultless (key_line_fault l.game) seen;
  here : l.frames ≡ length seen;
  within : l.frames ≤ l.game.frames;
}
