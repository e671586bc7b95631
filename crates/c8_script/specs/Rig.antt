-- What `rig` does with the text of a game.
use Rattle.std.specs.Prelude.{◌≡◌, ◌⊎◌, ℕ, List, Option, Some, None, Bool, true, Result, Ok, Err}
use Rattle.c8_command.specs.Status.{status_of_outcome}
use Rattle.c8_command.specs.declared.status.Status.{Status}
use Rattle.c8_game.specs.GameFaults.{IsRefused}
use Rattle.c8_game.specs.GameText.{Spells}
use Rattle.c8_game.specs.Rules.{Rules}
use Rattle.c8_game.specs.declared.error.GameError.TheVariants as games
use Rattle.c8_rig.specs.Rigged.{IsRigged}
use Rattle.c8_rig.specs.declared.gathering.Gathering.{Gathering}
use Rattle.c8_rig.specs.declared.gathering.Gathering.TheVariants.{Gathered, Torn}
use Rattle.c8_script.specs.RigErrors.{rig_part}
use Rattle.c8_script.specs.declared.error.RigError.{RigError}
use Rattle.c8_script.specs.declared.error.RigError.TheVariants.{Game, Memory, Script}

abbrev pub IsGame : List ℕ → Type 0
IsGame text = (rules : Rules) × Spells text rules

-- the verdict on a match: whether its peers agree, or none if the log is torn
abbrev pub verdict_on : Gathering → Option Bool
verdict_on (Gathered log peers agree) = Some agree
verdict_on Torn = None

-- The verdict on some match in threads of the text's game, on disks for `turns` turns.
pub record IsVerdict (text : List ℕ) (turns : ℕ) (verdict : Option Bool) : Type 0 where
  pub rules : Rules
  pub spelled : Spells text rules
  pub gathering : Gathering
  pub rigged : IsRigged rules turns gathering
  pub verdict_is : verdict ≡ verdict_on gathering

-- If the text spells a game: a verdict on a match, or out of memory, or, only if a script was asked for, a script that
-- cannot be written. If it does not: the text's first fault. Reading the text may also run out of memory.
abbrev pub IsOutcome : List ℕ → ℕ → Bool → Result (Option Bool) RigError → Type 0
IsOutcome text turns has_script (Ok verdict) = IsVerdict text turns verdict
IsOutcome text turns has_script (Err (Game error)) = (error ≡ games.Memory) ⊎ IsRefused text error
IsOutcome text turns has_script (Err Memory) = IsGame text
IsOutcome text turns has_script (Err Script) = IsGame text × (has_script ≡ true)

-- it ends with such an outcome
abbrev pub HasEnded : List ℕ → ℕ → Bool → Status → Type 0
HasEnded text turns has_script status =
    (outcome : Result (Option Bool) RigError) × IsOutcome text turns has_script outcome × (status ≡ status_of_outcome rig_part outcome)
