-- The numbers of the errors, as programs print them.
use Rattle.std.specs.Prelude.{ℕ}
use Rattle.c8_game.specs.declared.error.GameError.{GameError}
use Rattle.c8_game.specs.declared.error.GameError.TheVariants.{Line, Range, Missing, Twice, Hex, Memory}

abbrev pub number_of : GameError → ℕ
number_of Line = 1
number_of Range = 2
number_of Missing = 3
number_of Twice = 4
number_of Hex = 5
number_of Memory = 6
