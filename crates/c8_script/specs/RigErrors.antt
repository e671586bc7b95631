-- The part and the number of each refusal, as they are printed.
use Rattle.std.specs.Prelude.{ℕ}
use Rattle.c8_command.specs.declared.refusal.Part.{Part}
use Rattle.c8_command.specs.declared.refusal.Part.TheVariants as parts
use Rattle.c8_game.specs.Errors as games
use Rattle.c8_script.specs.declared.error.RigError.{RigError}
use Rattle.c8_script.specs.declared.error.RigError.TheVariants.{Game, Memory, Script}

-- the part and the number of each refusal of the command; out of memory counts as an opening's, and a file that cannot
-- be written as the disk's
abbrev pub rig_part : RigError → Part
rig_part (Game error) = parts.Game
rig_part Memory = parts.Open
rig_part Script = parts.Disk

abbrev pub rig_error_number : RigError → ℕ
rig_error_number (Game error) = games.number_of error
rig_error_number Memory = 5
rig_error_number Script = 1
