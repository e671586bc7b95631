-- How `watch` ends.
use Rattle.std.specs.Prelude.{◌≡◌, ◌≤◌, ℕ, List, length, Result, Ok, Err}
use Rattle.c8_command.specs.Status.{status_of_outcome}
use Rattle.c8_command.specs.declared.status.Status.{Status}
use Rattle.c8_game.specs.Rules.{Rules}
use Rattle.c8_game.specs.declared.row.Row.{Row}
use Rattle.c8_texts.specs.declared.lines.Played.{Played}
use Rattle.c8_machine.specs.Serial.{serial}
use Rattle.c8_machine.specs.State.{state}
use Rattle.c8_net.specs.Errors.{peer_part}
use Rattle.c8_net.specs.declared.error.PeerError.{PeerError}
use Rattle.c8_spectator.specs.Watching.{WatchValue, first_watch}
use Rattle.c8_transport.specs.declared.wire.Wire.{Ghosts as WireGhosts}
use Rattle.c8_watch.specs.Turns.{AreTurns}

-- A match was watched from a seat: at most `most` turns over this wire, starting without rows. These are the frames
-- that were taken, and the machine is the serial run of their rows.
pub record HasWatched {W : Type 0} (wire : WireGhosts W) (rules : Rules) (room seat most : ℕ) (first : W) (played : Played) : Type 0 where
  pub last : W
  pub turns : ℕ
  pub few : turns ≤ most
  pub watch : WatchValue
  pub watched : AreTurns wire turns (first_watch rules room seat) watch first last
  pub frames : played.frames ≡ length watch.rows
  pub machine : state played.machine ≡ serial rules watch.rows

-- a watcher saw as many rows as it reports frames, and the machine is their serial run
abbrev pub IsWatched : Result Played PeerError → Type 0
IsWatched (Ok played) = (rules : Rules) × (rows : List Row) × (played.frames ≡ length rows) × (state played.machine ≡ serial rules rows)
IsWatched (Err error) = Unit {0}

-- The command `watch` ends with such an outcome. Its report follows the pictures, which no definition describes.
abbrev pub HasWatchedThen : Status → Type 0
HasWatchedThen status = (outcome : Result Played PeerError) × IsWatched outcome × (status ≡ status_of_outcome peer_part outcome)
