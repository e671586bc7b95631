-- No line so far begins so.
use Rattle.std.proofs.Common.{◌≡◌, ◌++◌, ℕ, List}
use Rattle.std.specs.Str.Lines.{lines}
use Rattle.c8_game.specs.Lines.{lines_left}
use Rattle.c8_files.specs.Card.{NoneBegins}
use Rattle.c8_files.proofs.card.first_behind.Given as goal

abbrev pub invariant-loop-line : goal.invariant-loop-line
invariant-loop-line l = record {
  seen : List (List ℕ);
  cut : lines l.text ≡ seen ++ lines_left l.line-iterator;
  none : NoneBegins l.begin seen;
}
