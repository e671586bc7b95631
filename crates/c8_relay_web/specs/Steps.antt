-- What a connection does with what came by it.
use Rattle.std.specs.Prelude.{◌≡◌, ◌⊎◌, ◌<◌, ◌≤◌, ◌+◌, ◌-◌, ◌^◌, ◌++◌, [], ◌∷◌, ℕ, Bool, List, MatchBool, None, Option, Some}
use Rattle.std.specs.Prelude.{drop, false, length, min, nat_le, slice_get, slice_range, take, true}
use Rattle.websocket.specs.Connection as web
use Rattle.websocket.specs.Handshake.{response_bytes}
use Rattle.websocket.specs.Connection.{StartsWithFragment, read_step}
use Rattle.c8_relay.specs.declared.address.Address.{Address}
use Rattle.c8_relay.specs.declared.address.Address.TheVariants as address
use Rattle.c8_relay_web.specs.Frames.{Gains, IsMessage, fresh, said_in}
use Rattle.c8_relay_web.specs.Replies.{response_of}
use Rattle.c8_relay_web.specs.declared.connection.Connection.{Connection}
use Rattle.c8_relay_web.specs.declared.connection.Next.{Next}
use Rattle.c8_relay_web.specs.declared.connection.Next.TheVariants.{Packet, Later, Nothing, Over}
use Rattle.c8_relay_web.specs.declared.connection.Stage.{Stage}
use Rattle.c8_relay_web.specs.declared.connection.Stage.TheVariants as stage
use Rattle.c8_relay_web.specs.declared.frames.Said.TheVariants as said
use Rattle.c8_relay_web.specs.declared.outbox.TheConstants.{OUTPUT}
use Rattle.c8_relay_web.specs.declared.connection.TheConstants.{HURRY, SILENCE}
use Rattle.c8_relay_web.specs.declared.inbox.TheConstants.{INPUT}
use Rattle.c8_relay_web.specs.declared.reply.Refused.{Refused}
use Rattle.c8_relay_web.specs.declared.reply.Refused.TheVariants as why
use Rattle.c8_relay_web.specs.declared.request.Asked.{Asked}
use Rattle.c8_relay_web.specs.declared.request.Asked.TheVariants as asked

-- the bytes that wait to be sent, and those that came and are not yet read
abbrev pub waiting : Connection → List ℕ
waiting it = slice_range it.outbox.bytes it.outbox.first it.outbox.last

abbrev pub unread : Connection → List ℕ
unread it = take it.inbox.filled it.inbox.bytes

abbrev pub is_open : Stage → Bool
is_open stage.Head = false
is_open (stage.Open context) = true
is_open (stage.Page sending) = false
is_open stage.Ending = false
is_open stage.Ended = false

-- the time that is so much later
abbrev pub later : ℕ → ℕ → ℕ
later now span = min (now + span) (2 ^ 64 - 1)

-- bytes wait behind all others; there is no room for them
abbrev pub Says : Connection → Connection → List ℕ → Type 0
Says old new bytes = (waiting new ≡ waiting old ++ bytes) ⊎ (OUTPUT < length (waiting old) + length bytes)

-- the address is that of a connection with this number
abbrev pub HasNumber : ℕ → Address → Type 0
HasNumber number (address.Udp host port) = ⊥
HasNumber number (address.Connection host own) = own ≡ number

-- a WebSocket's unread input begins with a whole binary message of this size, which a packet may have
abbrev pub BeginsWithPacket : web.Connection → List ℕ → ℕ → Type 0
BeginsWithPacket context [] size = ⊥
BeginsWithPacket context (first ∷ rest) size =
    (128 ≤ first) × (StartsWithFragment context (first ∷ rest) → ⊥) × (said_in (read_step context (first ∷ rest)) ≡ said.Packet size)

abbrev pub HasPacket : Stage → List ℕ → ℕ → Type 0
HasPacket stage.Head input size = ⊥
HasPacket (stage.Open context) input size = BeginsWithPacket context input size
HasPacket (stage.Page sending) input size = ⊥
HasPacket stage.Ending input size = ⊥
HasPacket stage.Ended input size = ⊥

-- a fact about the size of the packet that a turn gave, if it gave one
abbrev pub IfGives : Option Next → (ℕ → Type 0) → Type 0
IfGives None P = Unit {0}
IfGives (Some (Packet size)) P = P size
IfGives (Some Later) P = Unit {0}
IfGives (Some Nothing) P = Unit {0}
IfGives (Some Over) P = Unit {0}

-- a packet is the binary message with which the unread input of a WebSocket began, and its frame is read
abbrev pub IsGiven : Connection → Connection → List ℕ → Type 0
IsGiven old new packet =
    (context : web.Connection) × (old.stage ≡ stage.Open context) × ((consumed : ℕ) × IsMessage context (unread old) consumed packet
    × (unread new ≡ drop consumed (unread old)))

-- A packet is sent as one frame, a binary message, behind all that waited; the front of this may have gone out already.
abbrev pub IsSent : Connection → Connection → List ℕ → Type 0
IsSent old new packet =
    (context : web.Connection) × (old.stage ≡ stage.Open context) × ((frame : List ℕ) × Gains context packet [] frame
    × ((sent : ℕ) × (waiting new ≡ drop sent (waiting old ++ frame))))

-- Why a packet is lost: the connection is no WebSocket; or it has said goodbye; or a buffer of so many bytes has no room for its frame; or
-- too many bytes wait before it.
abbrev pub LacksRoom : ℕ → Connection → List ℕ → Type 0
LacksRoom room old packet =
    (is_open old.stage ≡ false)
    ⊎ ((context : web.Connection) × (old.stage ≡ stage.Open context) × ((web.can_write context.state ≡ false)
    ⊎ (room < length packet + web.max_header_len)
    ⊎ ((frame : List ℕ) × Gains context packet [] frame × (OUTPUT < length (waiting old) + length frame))))

-- a packet is from the connection in a place
abbrev pub IsFrom : List (Option Connection) → ℕ → Address → Type 0
IsFrom places place from = (it : Connection) × (slice_get places place ≡ Some (Some it)) × HasNumber it.guest.number from

-- all connections but that in a place stay as they are
abbrev pub KeepsOthers : ℕ → List (Option Connection) → List (Option Connection) → Type 0
KeepsOthers place old new = (other : ℕ) → (other ≡ place → ⊥) → slice_get new other ≡ slice_get old other

-- a request is refused: its response waits behind all else, and then the connection ends
abbrev pub IsRefused : Refused → ℕ → Connection → Connection → Type 0
IsRefused why now old new = Says old new (response_of why) × (new.stage ≡ stage.Ending) × (new.until ≡ later now HURRY)

-- What a connection does with what its request asks for. While the head is not whole it reads more, unless it has no room.
abbrev pub Follows : Asked → ℕ → Connection → Connection → Type 0
Follows asked.Unknown now old new =
    MatchBool (nat_le INPUT old.inbox.filled) (IsRefused why.TooLarge now old new)
    ((new.stage ≡ stage.Head) × (waiting new ≡ waiting old) × ((more : List ℕ) × (unread new ≡ unread old ++ more)))
Follows (asked.Upgrade upgrade) now old new =
    (new.stage ≡ stage.Open fresh) × (unread new ≡ drop upgrade.length (unread old))
    × (waiting old ≡ [] → waiting new ≡ response_bytes upgrade.accept []) × (new.until ≡ later now SILENCE)
Follows (asked.Page place part) now old new =
    (new.stage ≡ stage.Page (record { place = place; part = part; sent = 0 })) × (new.until ≡ later now SILENCE)
Follows (asked.Refused why) now old new = IsRefused why now old new
