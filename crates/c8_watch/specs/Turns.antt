-- What a turn of a watcher is: what it hears, and what of its answer the wire takes.
use Rattle.std.specs.Prelude.{◌≡◌, ◌⊎◌, ◌≤◌, ℕ, zero, suc, List, [], ◌∷◌, ◌++◌, length}
use Rattle.c8_wire.specs.Spelling.{Spells}
use Rattle.c8_wire.specs.checked.Read.{read}
use Rattle.c8_spectator.specs.Watching.{WatchValue, hear, seen}
use Rattle.c8_transport.specs.declared.wire.Wire.{Ghosts}
use Rattle.c8_transport.specs.Wire.{most_packets}

-- the watcher after it has heard these packets, one after another, whatever they spell
abbrev pub after_hearing : WatchValue → List (List ℕ) → WatchValue
after_hearing w [] = w
after_hearing w (bytes ∷ given) = after_hearing (hear w (read bytes)).watch given

-- The wire gave at most `most` packets and took none to send. The watcher has heard these.
pub record HasHeard {W : Type 0} (wire : Ghosts W) (most : ℕ) (old new : WatchValue) (before after : W) : Type 0 where
  pub given : List (List ℕ)
  pub received : wire.received after ≡ wire.received before ++ given
  pub few : length given ≤ most
  pub has : new ≡ after_hearing old given
  pub sent : wire.sent after ≡ wire.sent before

-- It says how many rows it has. The wire takes that or loses it.
abbrev pub MaySay : List (List ℕ) → WatchValue → List (List ℕ) → Type 0
MaySay before w after = (after ≡ before) ⊎ ((bytes : List ℕ) × Spells bytes (seen w) × (after ≡ before ++ bytes ∷ []))

-- A turn: the watcher hears at most `most_packets` packets of the wire, then says how many rows it has. If the wire
-- fails, nothing more follows.
pub record IsTurn {W : Type 0} (wire : Ghosts W) (old new : WatchValue) (before after : W) : Type 0 where
  pub between : W
  pub hears : HasHeard wire most_packets old new before between
  pub says : MaySay (wire.sent between) new (wire.sent after)
  pub received : wire.received after ≡ wire.received between

-- this number of turns, one after another; between two of them the wire gives and takes nothing
abbrev pub AreTurns : {W : Type 0} → Ghosts W → ℕ → WatchValue → WatchValue → W → W → Type 0
AreTurns wire zero old new before after = (new ≡ old) × (wire.received after ≡ wire.received before) × (wire.sent after ≡ wire.sent before)
AreTurns {W} wire (suc fewer) old new before after =
    (middle : WatchValue) × (between : W) × AreTurns wire fewer old middle before between × IsTurn wire middle new between after
