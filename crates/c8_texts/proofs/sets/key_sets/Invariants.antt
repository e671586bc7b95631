-- The sets taken are those that the lines so far spell, one a line.
use Rattle.std.proofs.Common.{◌≡◌, ◌++◌, ℕ, List, true, map}
use Rattle.std.specs.List.{list_all}
use Rattle.std.specs.Str.Lines.{lines}
use Rattle.c8_game.specs.KeysText.{is_keys_text}
use Rattle.c8_game.specs.Lines.{lines_left}
use Rattle.c8_texts.specs.KeySets.{set_of}
use Rattle.c8_texts.proofs.sets.key_sets.Given as goal

-- the lines so far are four digits each, and their sets were taken
abbrev pub invariant-loop-line : goal.invariant-loop-line
invariant-loop-line l = record {
  seen : List (List ℕ);
  cut : lines l.text ≡ seen ++ lines_left l.line-iterator;
  spelled : list_all is_keys_text seen ≡ true;
  taken : l.sets.items ≡ map set_of seen;
}
