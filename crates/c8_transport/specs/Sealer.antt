-- What a sealer seals and takes. It has the keys of a match, the own seat, the counter of its next packet, how many counters are
-- left, and what it has taken so far, oldest first.
use Rattle.std.specs.Prelude.{◌≡◌, ℕ, ◌+◌, ◌-◌, ◌<◌, ◌≤◌, ◌^◌, List, [], ◌∷◌, ◌++◌, length, take, slice_index_or, None, Some, Result, Ok, Err}
use Rattle.c8_transport.specs.Seal.{sealed}
use Rattle.c8_wire.specs.Packet.{Packet}
use Rattle.c8_wire.specs.checked.Read.{read}
use Rattle.c8_transport.specs.Counters.{IsNew}
use Rattle.c8_transport.specs.Given.{GivenValue, counters_of}
use Rattle.c8_transport.specs.Opened.{key_for, IsSealing}
use Rattle.c8_transport.specs.declared.error.NotTaken.{NotTaken}
use Rattle.c8_transport.specs.declared.error.NotTaken.TheVariants.{NotSealed, SeenBefore}
use Rattle.c8_transport.specs.declared.error.Unsealable.{Unsealable}
use Rattle.c8_transport.specs.declared.error.Unsealable.TheVariants.{Long, NoKey, Spent}
use Rattle.c8_transport.specs.declared.keys.Seal.{Seal}

pub record SealerValue : Type 0 where
  pub seal : Seal
  pub next : ℕ
  pub left : ℕ
  pub taken : List GivenValue

-- ---- what is sealed

-- a packet was sealed, at the front of a buffer, and its counter is used up
pub record HasSealed (old : SealerValue) (datagram out : List ℕ) (size : ℕ) (new : SealerValue) : Type 0 where
  pub key : List ℕ
  pub has : key_for old.seal.keys datagram ≡ Some key
  pub few : length datagram ≤ 174
  pub some : 0 < old.left
  pub within : old.next < 2 ^ 64
  pub packet : take size out ≡ sealed key old.next datagram
  pub size_is : size ≡ length datagram + 24
  pub used : new ≡ record old { next = old.next + 1; left = old.left - 1 }

-- why a datagram is not sealed, judged in this order
abbrev pub IsUnsealed : SealerValue → List ℕ → Unsealable → Type 0
IsUnsealed old datagram Long = 174 < length datagram
IsUnsealed old datagram NoKey = (length datagram ≤ 174) × (key_for old.seal.keys datagram ≡ None)
IsUnsealed old datagram Spent = (length datagram ≤ 174) × ((key : List ℕ) × (key_for old.seal.keys datagram ≡ Some key)) × (old.left ≡ 0)

-- ---- what is taken

-- the datagram is of this session and for this seat, and names this sender
pub record IsAddressed (session seat from : ℕ) (datagram : List ℕ) : Type 0 where
  pub packet : Packet
  pub reads : read datagram ≡ Ok packet
  pub session_is : packet.head.session ≡ session
  pub to_is : packet.head.to ≡ seat
  pub from_is : packet.head.from ≡ from

-- the packet was sealed for this seat, by the sender that its datagram names
pub record IsFor (seal : Seal) (packet : List ℕ) (given : GivenValue) : Type 0 where
  pub sealing : IsSealing seal.keys packet given.counter given.datagram
  pub addressed : IsAddressed seal.session seal.seat.number given.from given.datagram

-- Of a packet for this seat that has a new counter of its sender the datagram is taken. Of all others nothing is.
abbrev pub IsTaking : SealerValue → List ℕ → Result GivenValue NotTaken → SealerValue → Type 0
IsTaking old packet (Ok given) new = IsFor old.seal packet given × IsNew (counters_of given.from old.taken) given.counter
    × (new ≡ record old { taken = old.taken ++ given ∷ [] })
IsTaking old packet (Err NotSealed) new = ((given : GivenValue) → IsFor old.seal packet given → ⊥) × (new ≡ old)
IsTaking old packet (Err SeenBefore) new =
    ((given : GivenValue) × IsFor old.seal packet given × (IsNew (counters_of given.from old.taken) given.counter → ⊥)) × (new ≡ old)

-- all of these packets, one after another
abbrev pub AreTakings : List (List ℕ) → SealerValue → SealerValue → Type 0
AreTakings [] old new = new ≡ old
AreTakings (packet ∷ packets) old new = (answer : Result GivenValue NotTaken) × (middle : SealerValue) × IsTaking old packet answer middle
    × AreTakings packets middle new

-- ---- how a sealer keeps what it has taken

-- for each seat the counters that were taken from it
abbrev pub AreSeen : List (List ℕ) → List GivenValue → Type 0
AreSeen seen taken = (seat : ℕ) → 1 ≤ seat → seat ≤ 6 → slice_index_or seen (seat - 1) [] ≡ counters_of seat taken

pub record IsSealer (next left : ℕ) (seen : List (List ℕ)) (taken : List GivenValue) : Type 0 where
  pub within : next + left < 2 ^ 64
  pub seen_are : AreSeen seen taken
