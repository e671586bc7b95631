-- How far a roll goes back, and what it keeps for the next call.
use Rattle.std.specs.Prelude.{◌≡◌, ◌≢◌, ◌⊎◌, ℕ, ◌+◌, ◌<◌, ◌≤◌, List, length, Option, Some, None}
use Rattle.std.specs.List.{slice_get}
use Rattle.c8_game.specs.declared.row.Row.{Row}
use Rattle.c8_known.specs.Known.{KnownValue}
use Rattle.c8_known.specs.Confirmed.{confirmed, best_row}
use Rattle.c8_known.specs.Growth.{IsStillKnown}
use Rattle.c8_digest.specs.Origin.{Origin}
use Rattle.c8_roll.specs.Roll.{RollValue, IsRollSince}

-- The player has run at most `window` frames ahead of the confirmed ones.
abbrev pub IsWithinWindow : RollValue → Type 0
IsWithinWindow v = v.ticks ≤ v.confirmed + v.rules.window

-- The player has run at most `window` + 1 frames ahead, so the row that was run is kept for each unconfirmed frame.
abbrev pub HasAllRows : RollValue → Type 0
HasAllRows v = v.ticks ≤ v.confirmed + v.rules.window + 1

-- The player has run further ahead than that, and the rows of the newest frames are not kept.
abbrev pub LacksRows : RollValue → Type 0
LacksRows v = v.confirmed + v.rules.window + 1 < v.ticks

-- The roll is that of what was known before, and all of that is still known now.
pub record WasKnown (v : RollValue) (now : KnownValue) : Type 0 where
  pub from : Origin
  pub before : KnownValue
  pub was : IsRollSince from before v
  pub still : IsStillKnown before now

-- the rows of all unconfirmed frames, as they are best guessed now; if there are more than `window` + 1, only the first
-- of them
pub record KeepsRows (window : ℕ) (k : KnownValue) (rows : List Row) : Type 0 where
  pub few : length rows ≤ window + 1
  pub all : length rows ≤ window → confirmed k + length rows ≡ k.ticks
  pub within : confirmed k + length rows ≤ k.ticks
  pub best : (i : ℕ) → i < length rows → slice_get rows i ≡ Some (best_row k (confirmed k + i))

-- frames from the first on were run with these rows, and for each of the first n frames the best guess is that row
abbrev pub AreAsRun : List Row → ℕ → KnownValue → ℕ → Type 0
AreAsRun rows first k n = (i : ℕ) (row : Row) → i < n → slice_get rows i ≡ Some row → best_row k (first + i) ≡ row

-- the oldest frame whose best guess is no longer the row that was run
pub record IsOldest (rows : List Row) (first : ℕ) (k : KnownValue) (frame : ℕ) : Type 0 where
  pub place : ℕ
  pub at : frame ≡ first + place
  pub row : Row
  pub run : slice_get rows place ≡ Some row
  pub differs : best_row k frame ≢ row
  pub before : AreAsRun rows first k place

-- that frame, or None if there is none
abbrev pub IsOldestChange : List Row → ℕ → KnownValue → Option ℕ → Type 0
IsOldestChange rows first k None = AreAsRun rows first k (length rows)
IsOldestChange rows first k (Some frame) = IsOldest rows first k frame

-- if the rows of the newest frames are not kept: that frame, if a kept row differs, else the last frame with a kept row
abbrev pub IsOldestOrLast : List Row → ℕ → KnownValue → Option ℕ → Type 0
IsOldestOrLast rows first k None = ⊥
IsOldestOrLast rows first k (Some frame) = IsOldest rows first k frame ⊎ (AreAsRun rows first k (length rows) × (frame + 1 ≡ first + length rows))

-- from what was known before to what is known now, the guesses at the unconfirmed frames below frame n did not change
abbrev pub AreStillBest : KnownValue → KnownValue → ℕ → Type 0
AreStillBest before now n = (frame : ℕ) → confirmed before ≤ frame → frame < n → best_row now frame ≡ best_row before frame

-- the oldest of the frames run before whose guess changed, or None if there is none
abbrev pub IsOldestWrong : KnownValue → KnownValue → Option ℕ → Type 0
IsOldestWrong before now None = AreStillBest before now before.ticks
IsOldestWrong before now (Some frame) = (confirmed before ≤ frame) × (frame < before.ticks) × (best_row now frame ≢ best_row before frame)
    × AreStillBest before now frame

-- the first frame that is run: the oldest whose guess changed, else the first new one
abbrev pub run_from : ℕ → Option ℕ → ℕ
run_from ticks None = ticks
run_from ticks (Some frame) = frame

-- How many frames are run: all from the oldest one whose guess changed, or, if none changed, the new ones.
pub record RunsFromOldest (before now : KnownValue) (ran : ℕ) : Type 0 where
  pub oldest : Option ℕ
  pub is : IsOldestWrong before now oldest
  pub all : ran + run_from before.ticks oldest ≡ now.ticks

-- The number of frames that are run, for a roll that kept the rows of all that was known before.
abbrev pub RunsFromWhatWasKnown : RollValue → List Row → KnownValue → ℕ → Type 0
RunsFromWhatWasKnown old rows now ran =
    (from : Origin) (before : KnownValue) → IsRollSince from before old → KeepsRows old.rules.window before rows → HasAllRows old
    → RunsFromOldest before now ran
