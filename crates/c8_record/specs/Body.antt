-- The spelling of a record in the 143 bytes of a slot's body.
use Rattle.std.specs.Prelude.{ℕ, ◌-◌, ◌*◌, ◌/◌, ◌%◌, ◌^◌, ◌≡◌, ◌<◌, ◌≤◌, ◌==◌, ◌⊎◌, if◌then◌else◌, List, [], ◌∷◌, ◌++◌, length, take, drop}
use Rattle.std.specs.Prelude.{replicate, slice_index, map}
use Rattle.byteorder.specs.Endian.{big_bytes}
use Rattle.c8_wire.specs.Packet.{AreBytes, AreWords}
use Rattle.c8_wire.specs.Reading.{number_at, words_of}
use Rattle.c8_wire.specs.Sizes.{longest_run}
use Rattle.c8_wire.specs.Spelling.{words_bytes}
use Rattle.c8_record.specs.Checks.{all_pieces}
use Rattle.c8_known.specs.Journal.{Record, Head, Epoch, Own, Got, Freeze, Leave, Cut, State, Check}

-- where the run begins
abbrev pub run_place : ℕ
run_place = 12

-- the bytes from there on: the longest run and three more
abbrev pub run_room : ℕ
run_room = 131

-- The fields that every body has: the kind, a player, a number, a start, and the bytes of a run.
pub record Fields : Type 0 where
  pub kind : ℕ
  pub player : ℕ
  pub number : ℕ
  pub start : ℕ
  pub run : List ℕ

-- The fields of each kind. An unused number is 0, and an unused run is empty. A HEAD's number is the
-- epoch that it begins, and its run is the game's id and the room. The start of a HEAD or an EPOCH is
-- the form of the records that follow. A CHECK's start is the number of pieces.
abbrev pub fields_of : Record → Fields
fields_of (Head player form id room) = record { kind = 1; player = player; number = 1; start = form; run = id ++ big_bytes 8 room }
fields_of (Epoch player number form) = record { kind = 2; player = player; number = number; start = form; run = [] }
fields_of (Own player start word) = record { kind = 3; player = player; number = 0; start = start; run = words_bytes (word ∷ []) }
fields_of (Got player start words) = record { kind = 4; player = player; number = 0; start = start; run = words_bytes words }
fields_of (Freeze player) = record { kind = 5; player = player; number = 0; start = 0; run = [] }
fields_of (Leave player) = record { kind = 6; player = player; number = 0; start = 0; run = [] }
fields_of (Cut player length start words) = record { kind = 7; player = player; number = length; start = start; run = words_bytes words }
fields_of (State player frames piece bytes) = record { kind = 8; player = player; number = frames; start = piece; run = bytes }
fields_of (Check player frames digest) = record { kind = 9; player = player; number = frames; start = all_pieces; run = digest }

-- The fields in 143 bytes, if the run is not too long. Numbers are big-endian. The number of the run's
-- words comes before the run, and zeros after it.
abbrev pub field_bytes : Fields → List ℕ
field_bytes f =
    f.kind ∷ f.player ∷ big_bytes 4 f.number ++ big_bytes 4 f.start ++ big_bytes 2 (length f.run / 2) ++ f.run ++ replicate
    (run_room - length f.run) 0

unfoldable pub body_of : Record → List ℕ
body_of r = field_bytes (fields_of r)

-- a form is the first or the second: 0 or 2
abbrev pub IsForm : ℕ → Type 0
IsForm form = (form ≡ 0) ⊎ (form ≡ 2)

-- how many words the digest in a CHECK has
abbrev pub digest_words : ℕ
digest_words = 4

-- What a kind needs: a game's id has 32 bytes, a room 8, a word 2; a GOT has at least one input; a CHECK
-- has the words of a digest.
abbrev pub HasParts : Record → Type 0
HasParts (Head player form id room) = IsForm form × (length id ≡ 32) × AreBytes id × (room < 2 ^ 64)
HasParts (Epoch player number form) = IsForm form
HasParts (Own player start word) = word < 2 ^ 16
HasParts (Got player start words) = (1 ≤ length words) × AreWords words
HasParts (Freeze player) = Unit {0}
HasParts (Leave player) = Unit {0}
HasParts (Cut player length start words) = AreWords words
HasParts (State player frames piece bytes) = (length bytes % 2 ≡ 0) × AreBytes bytes
HasParts (Check player frames digest) = (length digest ≡ 2 * digest_words) × AreBytes digest

-- the record can be spelled
pub record HasSpelling (r : Record) : Type 0 where
  pub from_one : 1 ≤ (fields_of r).player
  pub to_four : (fields_of r).player ≤ 4
  pub number : (fields_of r).number < 2 ^ 32
  pub start : (fields_of r).start < 2 ^ 32
  pub short : length (fields_of r).run ≤ 2 * longest_run
  pub parts : HasParts r

-- these bytes are the spelling of the record
pub record Spells (bytes : List ℕ) (r : Record) : Type 0 where
  pub has : HasSpelling r
  pub is : bytes ≡ body_of r

-- ---- reading

-- the words of the run, as many as the bytes say
abbrev pub run_at : List ℕ → List ℕ
run_at bytes = words_of (take (2 * number_at 10 2 bytes) (drop run_place bytes))

-- the bytes of the run
abbrev pub bytes_at : List ℕ → List ℕ
bytes_at bytes = take (2 * number_at 10 2 bytes) (drop run_place bytes)

-- The record that bytes can spell. The first byte decides its kind: any value but 1 to 8 is read as a
-- CHECK. `Spells` says whether the bytes really spell it.
unfoldable pub record_of : List ℕ → Record
record_of bytes =
    if slice_index bytes 0 == 1 then Head (slice_index bytes 1) (number_at 6 4 bytes) (take 32 (drop run_place bytes)) (number_at 44 8 bytes)
    else (if slice_index bytes 0 == 2 then Epoch (slice_index bytes 1) (number_at 2 4 bytes) (number_at 6 4 bytes)
    else (if slice_index bytes 0 == 3 then Own (slice_index bytes 1) (number_at 6 4 bytes) (number_at 12 2 bytes)
    else (if slice_index bytes 0 == 4 then Got (slice_index bytes 1) (number_at 6 4 bytes) (run_at bytes)
    else (if slice_index bytes 0 == 5 then Freeze (slice_index bytes 1)
    else (if slice_index bytes 0 == 6 then Leave (slice_index bytes 1)
    else (if slice_index bytes 0 == 7 then Cut (slice_index bytes 1) (number_at 2 4 bytes) (number_at 6 4 bytes) (run_at bytes)
    else (if slice_index bytes 0 == 8 then State (slice_index bytes 1) (number_at 2 4 bytes) (number_at 6 4 bytes) (bytes_at bytes)
    else Check (slice_index bytes 1) (number_at 2 4 bytes) (bytes_at bytes))))))))

-- the records of a list of bodies
abbrev pub records_of : List (List ℕ) → List Record
records_of bodies = map record_of bodies
