-- The lines of a text that are still to be read.
use Rattle.std.specs.Prelude.{ℕ, List}
use Rattle.std.specs.Str.Lines.{lines}
use Rattle.c8_game.specs.declared.text.lines.Lines.{Lines}

abbrev pub lines_left : Lines → List (List ℕ)
lines_left l = lines l.rest.now
