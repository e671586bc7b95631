-- What a datagram says, apart from its bytes.
use Rattle.std.specs.Prelude.{◌≡◌, ℕ, ◌+◌, ◌^◌, ◌<◌, ◌≤◌, nat_le, Bool, true, List, length, slice_index, IfSome}
use Rattle.std.specs.List.{slice_get}
use Rattle.c8_game.specs.Rules.{most_frames, most_inputs, set_at}
use Rattle.c8_game.specs.declared.row.Row.{Row}
use Rattle.c8_game.specs.declared.wire.WireVersion.{WireVersion}
use Rattle.c8_game.specs.declared.wire.WireVersion.TheVariants as versions
use Rattle.c8_pairs.specs.Pairs.{pairs_of}
use Rattle.c8_wire.specs.declared.kinds.DatagramKind.{DatagramKind}
use Rattle.c8_wire.specs.declared.kinds.DatagramKind.TheVariants as kinds
use Rattle.c8_wire.specs.Sizes.{longest_run, most_rows, most_pairs}
use Rattle.c8_wire.specs.Seats.{are_seats}

-- The kind, the version, the match, the sender, the addressee and their epochs. Sender and addressee are
-- seats: players 1 to 4, watchers 5 and 6.
pub record HeadValue : Type 0 where
  pub kind : DatagramKind
  pub version : WireVersion
  pub session : ℕ
  pub from : ℕ
  pub to : ℕ
  pub sender_epoch : ℕ
  pub addressee_epoch : ℕ

-- the sender's own inputs from a place on, how many of the addressee's it holds, and its newest mark
pub record DataMessage : Type 0 where
  pub ack : ℕ
  pub mark_frame : ℕ
  pub mark : List ℕ
  pub start : ℕ
  pub words : List ℕ

-- player one drops a player, and holds this many of its inputs
pub record FreezeMessage : Type 0 where
  pub leaver : ℕ
  pub have : ℕ

-- The inputs of a dropped player from a place on. `length` is how many the sender holds (FROZEN), or how
-- many count for all who stay (CUT).
pub record LeaverMessage : Type 0 where
  pub leaver : ℕ
  pub length : ℕ
  pub start : ℕ
  pub words : List ℕ

-- rows of a match from a frame on, four key sets in each
pub record ShowMessage : Type 0 where
  pub start : ℕ
  pub rows : List Row

-- WELCOME acknowledges inputs of the addressee, SEEN acknowledges rows
pub data Message : Type 0 where
  Hello : Message
  Welcome : (ack : ℕ) → Message
  Data : DataMessage → Message
  Freeze : FreezeMessage → Message
  Frozen : LeaverMessage → Message
  Cut : LeaverMessage → Message
  Show : ShowMessage → Message
  Seen : (ack : ℕ) → Message

pub record Packet : Type 0 where
  pub head : HeadValue
  pub message : Message

abbrev pub kind_of : Message → DatagramKind
kind_of Hello = kinds.Hello
kind_of (Welcome ack) = kinds.Welcome
kind_of (Data m) = kinds.Data
kind_of (Freeze m) = kinds.Freeze
kind_of (Frozen m) = kinds.Frozen
kind_of (Cut m) = kinds.Cut
kind_of (Show m) = kinds.Show
kind_of (Seen ack) = kinds.Seen

-- a run that is not too long and ends at a place or before
pub record IsRun (start : ℕ) (words : List ℕ) (end : ℕ) : Type 0 where
  pub short : length words ≤ longest_run
  pub within : start + length words ≤ end

pub record IsDataMessage (m : DataMessage) : Type 0 where
  pub ack : m.ack ≤ most_inputs
  pub mark_frame : m.mark_frame ≤ most_inputs
  pub run : IsRun m.start m.words most_inputs

-- player one is never dropped
pub record IsFreezeMessage (m : FreezeMessage) : Type 0 where
  pub leaver_from_two : 2 ≤ m.leaver
  pub leaver_to_four : m.leaver ≤ 4
  pub have : m.have ≤ most_inputs

pub record IsLeaverMessage (m : LeaverMessage) : Type 0 where
  pub leaver_from_two : 2 ≤ m.leaver
  pub leaver_to_four : m.leaver ≤ 4
  pub length : m.length ≤ most_inputs
  pub run : IsRun m.start m.words m.length

-- not too many rows, all within the frames of a game
pub record IsShowMessage (m : ShowMessage) : Type 0 where
  pub short : length m.rows ≤ most_rows
  pub within : m.start + length m.rows ≤ most_frames

-- what a message may say
abbrev pub IsMessage : Message → Type 0
IsMessage Hello = Unit {0}
IsMessage (Welcome ack) = ack ≤ most_inputs
IsMessage (Data m) = IsDataMessage m
IsMessage (Freeze m) = IsFreezeMessage m
IsMessage (Frozen m) = IsLeaverMessage m
IsMessage (Cut m) = IsLeaverMessage m
IsMessage (Show m) = IsShowMessage m
IsMessage (Seen ack) = ack ≤ most_frames

-- bytes, and key sets of 16 bits
abbrev pub AreBytes : List ℕ → Type 0
AreBytes bytes = (i : ℕ) → slice_index bytes i < 2 ^ 8

abbrev pub AreWords : List ℕ → Type 0
AreWords words = (i : ℕ) → slice_index words i < 2 ^ 16

-- rows of four key sets each
pub record IsRow (row : Row) : Type 0 where
  pub four : length row.sets ≡ 4
  pub sets : (place : ℕ) → set_at row place < 2 ^ 16

abbrev pub AreRows : List Row → Type 0
AreRows rows = (place : ℕ) → IfSome (slice_get rows place) IsRow

-- a mark has 8 bytes
abbrev pub IsMark : List ℕ → Type 0
IsMark mark = (length mark ≡ 8) × AreBytes mark

-- the other fields of a message fit into their bytes
abbrev pub Fits : Message → Type 0
Fits Hello = Unit {0}
Fits (Welcome ack) = Unit {0}
Fits (Data m) = IsMark m.mark × AreWords m.words
Fits (Freeze m) = Unit {0}
Fits (Frozen m) = AreWords m.words
Fits (Cut m) = AreWords m.words
Fits (Show m) = AreRows m.rows
Fits (Seen ack) = Unit {0}

-- whether the bytes of a run fit: in version 2 it has at most 42 stretches of equal key sets
abbrev pub has_few_stretches : WireVersion → List ℕ → Bool
has_few_stretches versions.One words = true
has_few_stretches versions.Two words = nat_le (length (pairs_of words)) most_pairs

-- whether the bytes of a message fit
abbrev pub has_room : WireVersion → Message → Bool
has_room version Hello = true
has_room version (Welcome ack) = true
has_room version (Data m) = has_few_stretches version m.words
has_room version (Freeze m) = true
has_room version (Frozen m) = has_few_stretches version m.words
has_room version (Cut m) = has_few_stretches version m.words
has_room version (Show m) = true
has_room version (Seen ack) = true

-- A header between two seats that may exchange such a datagram. Its numbers fit into their bytes.
pub record IsHead (head : HeadValue) : Type 0 where
  pub session : head.session < 2 ^ 64
  pub seats : are_seats head.kind head.from head.to ≡ true
  pub sender_epoch : head.sender_epoch < 2 ^ 32
  pub addressee_epoch : head.addressee_epoch < 2 ^ 32

-- what a datagram may say
pub record IsPacket (p : Packet) : Type 0 where
  pub head : IsHead p.head
  pub kind : p.head.kind ≡ kind_of p.message
  pub fits : Fits p.message
  pub message : IsMessage p.message
  pub room : has_room p.head.version p.message ≡ true
