-- The part and the number of each refusal, as they are printed: those of the same faults of a game text.
use Rattle.std.specs.Prelude.{ℕ}
use Rattle.c8_command.specs.declared.refusal.Part.{Part}
use Rattle.c8_command.specs.declared.refusal.Part.TheVariants as parts
use Rattle.c8_game.specs.declared.error.GameError.{GameError}
use Rattle.c8_game.specs.declared.error.GameError.TheVariants as faults
use Rattle.c8_files.specs.declared.error.ProgramError.{ProgramError}
use Rattle.c8_files.specs.declared.error.ProgramError.TheVariants.{Range, Missing, Twice, Memory}

abbrev pub number_of : ProgramError → ℕ
number_of Range = 2
number_of Missing = 3
number_of Twice = 4
number_of Memory = 6

abbrev pub program_part : ProgramError → Part
program_part error = parts.Game

-- the fault of a game text that has the same number and name
abbrev pub game_fault : ProgramError → GameError
game_fault Range = faults.Range
game_fault Missing = faults.Missing
game_fault Twice = faults.Twice
game_fault Memory = faults.Memory
