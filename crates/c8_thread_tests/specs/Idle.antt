-- Rows in which no player holds a key.
use Rattle.std.specs.Prelude.{◌≡◌, ◌≤◌, ℕ, List, [], ◌∷◌, replicate}
use Rattle.c8_game.specs.Rules.{Rules, most_frames}
use Rattle.c8_game.specs.declared.row.Row.{Row}
use Rattle.c8_machine.specs.declared.machine.Machine.{Machine}
use Rattle.c8_machine.specs.State.{state}
use Rattle.c8_machine.specs.Serial.{serial}
use Rattle.c8_digest.specs.Origin.{first_origin}
use Rattle.c8_live.specs.Starts.{StartValue, start_of}

abbrev pub idle : Row
idle = record { sets = record { 0 = 0 } ∷ record { 0 = 0 } ∷ record { 0 = 0 } ∷ record { 0 = 0 } ∷ [] }

abbrev pub idle_rows : ℕ → List Row
idle_rows n = replicate n idle

-- the start before the first frame
abbrev pub first_start : Rules → StartValue
first_start game = start_of (first_origin game)

-- the machine after this many idle rows
abbrev pub IsIdleRun : Rules → Machine → ℕ → Type 0
IsIdleRun game machine count = (state machine ≡ serial game (idle_rows count)) × (count ≤ most_frames)
