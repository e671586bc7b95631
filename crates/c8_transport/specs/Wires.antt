-- What a wire that seals does with the wire below it.
use Rattle.std.specs.Prelude.{◌≡◌, ℕ, List, ◌++◌, take, Result, Ok, Err}
use Rattle.c8_transport.specs.declared.wire.Wire.{Ghosts}
use Rattle.c8_transport.specs.Wire.{MayTake}
use Rattle.c8_transport.specs.Sealer.{SealerValue, HasSealed, IsUnsealed, AreTakings}
use Rattle.c8_transport.specs.declared.error.Unsealable.{Unsealable}

-- Each packet that the wire below gave was judged, one after another, and it took none to send.
pub record HasOpened {W : Type 0} (wire : Ghosts W) (old new : SealerValue) (before after : W) : Type 0 where
  pub came : List (List ℕ)
  pub received : wire.received after ≡ wire.received before ++ came
  pub takings : AreTakings came old new
  pub sent : wire.sent after ≡ wire.sent before

-- the wire below got the packet of a datagram, or nothing if the datagram was not sealed
abbrev pub IsPassed : {W : Type 0} → Ghosts W → SealerValue → List ℕ → List ℕ → Result ℕ Unsealable → SealerValue → W → W → Type 0
IsPassed wire old datagram out (Ok size) new before after =
    HasSealed old datagram out size new × MayTake (wire.sent before) (take size out) (wire.sent after)
IsPassed wire old datagram out (Err why) new before after = IsUnsealed old datagram why × (new ≡ old) × (wire.sent after ≡ wire.sent before)

-- A datagram was given to be sent.
pub record HasPassed {W : Type 0} (wire : Ghosts W) (old new : SealerValue) (datagram : List ℕ) (before after : W) : Type 0 where
  pub out : List ℕ
  pub answer : Result ℕ Unsealable
  pub passed : IsPassed wire old datagram out answer new before after
  pub received : wire.received after ≡ wire.received before
