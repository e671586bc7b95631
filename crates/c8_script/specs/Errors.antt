-- The part and the number of each refusal, as they are printed.
use Rattle.std.specs.Prelude.{ℕ}
use Rattle.c8_command.specs.declared.refusal.Part.{Part}
use Rattle.c8_command.specs.declared.refusal.Part.TheVariants as parts
use Rattle.c8_game.specs.Errors as games
use Rattle.c8_script.specs.declared.error.ScriptError.{ScriptError}
use Rattle.c8_script.specs.declared.error.ScriptError.TheVariants.{Line, Memory}
use Rattle.c8_script.specs.declared.error.SimError.{SimError}
use Rattle.c8_script.specs.declared.error.SimError.TheVariants.{Game, Script}

abbrev pub script_error_number : ScriptError → ℕ
script_error_number Line = 1
script_error_number Memory = 2

-- the part and the number of each refusal of the command
abbrev pub sim_part : SimError → Part
sim_part (Game error) = parts.Game
sim_part (Script error) = parts.Script

abbrev pub sim_error_number : SimError → ℕ
sim_error_number (Game error) = games.number_of error
sim_error_number (Script error) = script_error_number error
