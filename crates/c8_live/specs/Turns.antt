-- What a turn of a session over a wire is: what its peer hears, which calls it makes, and which packets the wire takes.
use Rattle.std.specs.Prelude.{◌≡◌, ◌⊎◌, ◌≤◌, ℕ, zero, suc, List, [], ◌∷◌, ◌++◌, length, Option, Some, Ok}
use Rattle.c8_disk.specs.declared.disk.Disk.{Ghosts as DiskGhosts}
use Rattle.c8_wire.specs.Packet.{Packet}
use Rattle.c8_wire.specs.Spelling.{Spells}
use Rattle.c8_peer.specs.State.{Call, Reply, Deliver, Said}
use Rattle.c8_peer.specs.Steps.{DiskOutcome}
use Rattle.c8_peer.specs.Peer.{PeerValue}
use Rattle.c8_session.specs.Turns.{Hears, Ticks, Speaks, HasDone, HasCalledOnce, HasTurned}
use Rattle.c8_transport.specs.Wire.{most_packets}
use Rattle.c8_transport.specs.declared.wire.Wire.{Ghosts as WireGhosts}

-- ---- what is heard

-- the call delivers the packet that these bytes spell
abbrev pub DeliversBytes : List ℕ → Call → Type 0
DeliversBytes bytes call = (packet : Packet) × (call ≡ Deliver (Ok packet)) × Spells bytes packet

-- the calls deliver some of these packets, in this order; the others, such as those that spell no packet, are skipped
abbrev pub AreDeliveriesOf : List (List ℕ) → List (Call × DiskOutcome) → Type 0
AreDeliveriesOf given [] = Unit {0}
AreDeliveriesOf [] (call ∷ calls) = ⊥
AreDeliveriesOf (bytes ∷ given) (call ∷ calls) = (DeliversBytes bytes call.0 × AreDeliveriesOf given calls) ⊎ AreDeliveriesOf given (call ∷ calls)

abbrev pub HasHeardOf : {D : Type 0} → DiskGhosts D → List (List ℕ) → PeerValue D → PeerValue D → Type 0
HasHeardOf disk given old new = (done : HasDone disk Hears old new) × AreDeliveriesOf given done.ran.calls

-- The wire gave at most `most` packets, whatever they spell, and took none to send. The peer has heard only these.
pub record HasHeard {D W : Type 0} (disk : DiskGhosts D) (wire : WireGhosts W) (most : ℕ) (old new : PeerValue D) (before after : W) : Type 0 where
  pub given : List (List ℕ)
  pub received : wire.received after ≡ wire.received before ++ given
  pub few : length given ≤ most
  pub heard : HasHeardOf disk given old new
  pub sent : wire.sent after ≡ wire.sent before

-- ---- what is said

-- these bytes spell the packet that was said
abbrev pub SpellsAnswer : List ℕ → Option Reply → Type 0
SpellsAnswer bytes answer = (packet : Packet) × (answer ≡ Some (Said (Ok packet))) × Spells bytes packet

-- all of these were said, in this order; more may have been said and lost
abbrev pub WereSaid : List (List ℕ) → List (Option Reply) → Type 0
WereSaid [] answers = Unit {0}
WereSaid (bytes ∷ rest) [] = ⊥
WereSaid (bytes ∷ rest) (answer ∷ answers) = (SpellsAnswer bytes answer × WereSaid rest answers) ⊎ WereSaid (bytes ∷ rest) answers

-- The peer has spoken, which does not change it. The wire took only what was said, and gave nothing.
pub record HasSpoken {D W : Type 0} (disk : DiskGhosts D) (wire : WireGhosts W) (peer : PeerValue D) (before after : W) : Type 0 where
  pub done : HasDone disk Speaks peer peer
  pub taken : List (List ℕ)
  pub sent : wire.sent after ≡ wire.sent before ++ taken
  pub said : WereSaid taken done.ran.answers
  pub received : wire.received after ≡ wire.received before

-- ---- turns

-- A turn: the peer hears at most `most_packets` packets of the wire, ticks at most once, makes the turn's other calls,
-- and speaks. If the disk or the wire fails, nothing more follows.
pub record IsTurn {D W : Type 0} (disk : DiskGhosts D) (wire : WireGhosts W) (old new : PeerValue D) (before after : W) : Type 0 where
  pub heard : PeerValue D
  pub ticked : PeerValue D
  pub between : W
  pub hears : HasHeard disk wire most_packets old heard before between
  pub ticks : HasCalledOnce disk Ticks heard ticked
  pub turns : HasTurned disk ticked new
  pub speaks : HasSpoken disk wire new between after

-- this number of turns, one after another; between two of them the wire gives and takes nothing
abbrev pub AreTurns : {D W : Type 0} → DiskGhosts D → WireGhosts W → ℕ → PeerValue D → PeerValue D → W → W → Type 0
AreTurns disk wire zero old new before after = (new ≡ old) × (wire.received after ≡ wire.received before) × (wire.sent after ≡ wire.sent before)
AreTurns {D} {W} disk wire (suc fewer) old new before after =
    (middle : PeerValue D) × (between : W) × AreTurns disk wire fewer old middle before between × IsTurn disk wire middle new between after
