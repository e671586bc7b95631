-- What the calls of a watcher's endpoint do: with a secret it sends and takes sealed packets, without one bare datagrams.
use Rattle.std.specs.Prelude.{ℕ, ◌≡◌, ◌⊎◌, ◌+◌, ◌*◌, ◌-◌, ◌^◌, min, nat_le, Bool, true, false, List, [], length, Option, None, Some, IsSome}
use Rattle.std.specs.Prelude.{Result, Ok, Err}
use Rattle.c8_game.specs.Rules.{Rules, session_of}
use Rattle.c8_wire.specs.Spelling.{Spells}
use Rattle.c8_wire.specs.checked.Read.{read}
use Rattle.c8_spectator.specs.Watching.{WatchValue, first_watch, hear, seen}
use Rattle.c8_spectator.specs.declared.error.NotTaken.{NotTaken as Untaken}
use Rattle.c8_spectator.specs.declared.taken.Taken.{Taken}
use Rattle.c8_transport.specs.Opened.{AreKeysOf}
use Rattle.c8_transport.specs.Sealer.{SealerValue}
use Rattle.c8_transport.specs.declared.error.NotTaken.{NotTaken}
use Rattle.c8_transport.specs.declared.keys.Secrets.{Secrets}
use Rattle.c8_embed.specs.Endpoint.{Opened, IsOpenedAs, IsWrapped, IsUnsealable, sender_in}
use Rattle.c8_embed.specs.declared.watch.WatchEndpoint.{WatchEndpoint}
use Rattle.c8_embed.specs.declared.watch.Unshown.{Unshown}
use Rattle.c8_embed.specs.declared.watch.Unshown.TheVariants as unshown

-- A watcher that has just begun: no row was taken or given, and nothing is left to send.
pub record IsNewWatch (rules : Rules) (room seat begun : ℕ) (w : WatchEndpoint) : Type 0 where
  pub spectator : w.spectator ≡ first_watch rules room seat
  pub number : w.number ≡ session_of rules room
  pub sealer : w.sealer ≡ None
  pub sender : w.sender ≡ None
  pub begun_is : w.begun ≡ begun
  pub given : w.given ≡ 0
  pub owes : w.owes_seen ≡ false

-- it has every row of the game
abbrev pub has_all : WatchEndpoint → Bool
has_all w = nat_le w.spectator.rules.frames (length w.spectator.rows)

-- ---- a secret

-- The sealer of a watcher that has sealed and taken nothing: the keys of these secrets, the own seat, and the counters of the
-- time at which it began.
pub record IsFirstSealer (w : WatchEndpoint) (secrets : Secrets) (s : SealerValue) : Type 0 where
  pub keys : AreKeysOf secrets w.number s.seal.keys
  pub seat : s.seal.seat.number ≡ w.spectator.seat
  pub session : s.seal.session ≡ w.number
  pub next : s.next ≡ min (w.begun * 2 ^ 20) (2 ^ 64 - 2 ^ 32)
  pub left : s.left ≡ 2 ^ 32 - 1
  pub taken : s.taken ≡ []

-- the watcher gets a sealer, unless it has one
abbrev pub HasWatchSealing : WatchEndpoint → Secrets → Bool → WatchEndpoint → Type 0
HasWatchSealing old secrets true new =
    (s : SealerValue) × IsFirstSealer old secrets s × (old.sealer ≡ None) × (new ≡ record old { sealer = Some s })
HasWatchSealing old secrets false new = IsSome old.sealer × (new ≡ old)

-- ---- what comes

abbrev pub shown_of : Result Taken Untaken → Result Taken Unshown
shown_of (Ok taken) = Ok taken
shown_of (Err why) = Err (unshown.Refused why)

-- a datagram is heard, and nothing else
abbrev pub IsHeardAs : WatchValue → WatchValue → Result Opened NotTaken → Result Taken Unshown → Type 0
IsHeardAs old new (Ok opened) answer = (answer ≡ shown_of (hear old (read opened.datagram)).answer) × (new ≡ (hear old (read opened.datagram)).watch)
IsHeardAs old new (Err why) answer = (answer ≡ Err (unshown.NotTaken why)) × (new ≡ old)

pub record HasShown (old : WatchEndpoint) (bytes : List ℕ) (answer : Result Taken Unshown) (new : WatchEndpoint) : Type 0 where
  pub opened : Result Opened NotTaken
  pub is_opened : IsOpenedAs old.sealer bytes opened new.sealer
  pub heard : IsHeardAs old.spectator new.spectator opened answer
  pub sender : new.sender ≡ sender_in opened
  pub number : new.number ≡ old.number
  pub begun : new.begun ≡ old.begun
  pub given : new.given ≡ old.given
  pub owes : new.owes_seen ≡ old.owes_seen

-- ---- what goes

-- a turn begins: a SEEN is left to send
abbrev pub OwesSeen : WatchEndpoint → WatchEndpoint → Type 0
OwesSeen old new = new ≡ record old { owes_seen = true }

-- The first `size` bytes are the packet of this turn's SEEN, which player 1 gets.
pub record HasSeen (old : WatchEndpoint) (size : ℕ) (out : List ℕ) (new : WatchEndpoint) : Type 0 where
  pub owed : old.owes_seen ≡ true
  pub datagram : List ℕ
  pub spelled : Spells datagram (seen old.spectator)
  pub wrapped : IsWrapped old.sealer datagram size out new.sealer
  pub rest : new ≡ record old { sealer = new.sealer; owes_seen = false }

-- this turn's SEEN cannot be sealed
pub record IsLeftOut (old new : WatchEndpoint) : Type 0 where
  pub owed : old.owes_seen ≡ true
  pub datagram : List ℕ
  pub spelled : Spells datagram (seen old.spectator)
  pub unsealable : IsUnsealable old.sealer datagram
  pub rest : new ≡ record old { owes_seen = false }

-- there is no packet: it was written before, or it cannot be sealed
abbrev pub HasNoSeen : WatchEndpoint → WatchEndpoint → Type 0
HasNoSeen old new = ((old.owes_seen ≡ false) × (new ≡ old)) ⊎ IsLeftOut old new

-- ---- a step

-- A step gives the rows from where the last one ended: as many as there are, and no more than `most`.
pub record HasGiven (old : WatchEndpoint) (most from count : ℕ) (new : WatchEndpoint) : Type 0 where
  pub first : from ≡ min old.given (length old.spectator.rows)
  pub all : count ≡ min most (length old.spectator.rows - from)
  pub rest : new ≡ record old { given = from + count }
