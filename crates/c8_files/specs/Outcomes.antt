-- What the command `game` answers.
use Rattle.std.specs.Prelude.{◌≡◌, ◌⊎◌, ◌==◌, ℕ, List, length, Option, Some, None, nat_lt, Result, Ok, Err, if◌then◌else◌}
use Rattle.c8_game.specs.GameText.{Spells}
use Rattle.c8_game.specs.Rules.{most_program}
use Rattle.c8_files.specs.Asked.{rules_of}
use Rattle.c8_files.specs.Faults.{fault_of}
use Rattle.c8_files.specs.declared.error.ProgramError.{ProgramError}
use Rattle.c8_files.specs.declared.error.ProgramError.TheVariants.{Range, Missing, Memory}
use Rattle.c8_files.specs.declared.settings.Settings.{Settings}

-- a text that spells the game that is asked for, which has no fault; or its fault, or memory ran out
abbrev pub IsOutcomeOfGame : Settings → List ℕ → Result (List ℕ) ProgramError → Type 0
IsOutcomeOfGame settings program (Ok text) = (fault_of settings program ≡ None) × Spells text (rules_of settings program)
IsOutcomeOfGame settings program (Err error) = (error ≡ Memory) ⊎ (fault_of settings program ≡ Some error)

-- why a program is not listed
abbrev pub fault_of_list : List ℕ → Option ProgramError
fault_of_list program = if length program == 0 then Some Missing else if nat_lt most_program (length program) then Some Range else None

-- the program that is listed, or why it is not
abbrev pub IsOutcomeOfList : List ℕ → Result (List ℕ) ProgramError → Type 0
IsOutcomeOfList program (Ok listed) = (listed ≡ program) × (fault_of_list program ≡ None)
IsOutcomeOfList program (Err error) = fault_of_list program ≡ Some error
