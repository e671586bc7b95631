-- The rows that an engine with its own machine gets, and how it keeps its states.
use Rattle.std.specs.Prelude.{ℕ, ◌≡◌, ◌≢◌, ◌+◌, ◌<◌, ◌≤◌, List, [], ◌∷◌, ◌++◌, length, take, Option, Some, None}
use Rattle.std.specs.List.{slice_get}
use Rattle.c8_game.specs.declared.row.Row.{Row}
use Rattle.c8_known.specs.Known.{KnownValue}
use Rattle.c8_known.specs.Confirmed.{confirmed, best_row, best_rows_below}

-- The rows that an engine was given, from frame 0 on, how many of them were confirmed then, and how many have room.
pub record StepsValue : Type 0 where
  pub given : List Row
  pub settled : ℕ
  pub room : ℕ

-- The rows that were given as confirmed are confirmed, and equal those of a peer with this knowledge.
pub record IsTrueTo (k : KnownValue) (s : StepsValue) : Type 0 where
  pub confirmed_is : s.settled ≤ confirmed k
  pub within : s.settled ≤ length s.given
  pub settled_is : take s.settled s.given ≡ best_rows_below k s.settled

-- The first frame, up to the peer's tick, whose best row is not the one that was given.
pub record IsFirstChange (k : KnownValue) (given : List Row) (from : ℕ) : Type 0 where
  pub ticked : from ≤ k.ticks
  pub within : from ≤ length given
  pub same : take from given ≡ best_rows_below k from
  pub differs : from < length given → from < k.ticks → slice_get given from ≢ Some (best_row k from)

-- A step, with the rows given before and after it. It gives the best rows from the first change on: `count` of them,
-- all up to the peer's tick unless they are more than `most`.
pub record IsStepped (k : KnownValue) (most : ℕ) (before after : List Row) (from count : ℕ) : Type 0 where
  pub first : IsFirstChange k before from
  pub few : count ≤ most
  pub ticked : from + count ≤ k.ticks
  pub all : count < most → from + count ≡ k.ticks
  pub given : after ≡ best_rows_below k (from + count)

-- ---- an engine's machine: any type of state, a start and a step

-- the state after these rows
abbrev pub run : {S : Type 0} → (S → Row → S) → S → List Row → S
run step s [] = s
run step s (row ∷ rows) = run step (step s row) rows

-- the state at each frame, from the start on: one more than there are rows
abbrev pub states : {S : Type 0} → (S → Row → S) → S → List Row → List S
states step s [] = s ∷ []
states step s (row ∷ rows) = s ∷ states step (step s row) rows

-- the states that follow one, if there is one
abbrev pub states_from : {S : Type 0} → (S → Row → S) → Option S → List Row → List S
states_from step None rows = []
states_from step (Some s) rows = states step s rows

-- An engine goes back to its state at a frame, and runs these rows from there on.
abbrev pub goes_back : {S : Type 0} → (S → Row → S) → List S → ℕ → List Row → List S
goes_back step kept from rows = take from kept ++ states_from step (slice_get kept from) rows
