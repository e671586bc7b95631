-- The first frame in which the journals of two players fail a check.
use Rattle.std.specs.Prelude.{◌≡◌, ◌≢◌, ℕ, ◌<◌, ◌≤◌, Option, Some, None}
use Rattle.c8_known.specs.Known.{KnownValue, player_in, count_in}
use Rattle.c8_known.specs.Confirmed.{input_of, confirmed, row}
use Rattle.c8_audit.specs.Verdicts.{IsEntered}

-- the input of player q in a frame, as it is known here, was entered
abbrev pub WasEntered : KnownValue → Option ℕ → KnownValue → ℕ → ℕ → Type 0
WasEntered by cut own q frame = IsEntered cut own q frame (input_of (player_in by q) frame)

-- the first confirmed frame whose input was not entered
abbrev pub IsFirstNever : KnownValue → Option ℕ → KnownValue → ℕ → Option ℕ → Type 0
IsFirstNever by cut own q None = (frame : ℕ) → frame < confirmed by → WasEntered by cut own q frame
IsFirstNever by cut own q (Some first) =
    (first < confirmed by) × (WasEntered by cut own q first → ⊥) × ((frame : ℕ) → frame < first → WasEntered by cut own q frame)

-- the own journal has another input there, and player 1's journal does not lack the cut
abbrev pub IsBelied : KnownValue → Option ℕ → KnownValue → ℕ → ℕ → Type 0
IsBelied by cut own q frame =
    (WasEntered by cut own q frame → ⊥) × (frame < count_in own q) × (((count_in by q ≤ frame) × (cut ≡ None)) → ⊥)

-- the first confirmed frame in which the own journal has another input
abbrev pub IsFirstBelied : KnownValue → Option ℕ → KnownValue → ℕ → Option ℕ → Type 0
IsFirstBelied by cut own q None = (frame : ℕ) → frame < confirmed by → IsBelied by cut own q frame → ⊥
IsFirstBelied by cut own q (Some first) =
    (first < confirmed by) × IsBelied by cut own q first × ((frame : ℕ) → frame < first → IsBelied by cut own q frame → ⊥)

-- the first frame that both count as confirmed with different rows
abbrev pub IsFirstDifferent : KnownValue → KnownValue → Option ℕ → Type 0
IsFirstDifferent a b None = (frame : ℕ) → frame < confirmed a → frame < confirmed b → row a frame ≡ row b frame
IsFirstDifferent a b (Some first) =
    (first < confirmed a) × (first < confirmed b) × (row a first ≢ row b first) × ((frame : ℕ) → frame < first → row a frame ≡ row b frame)
