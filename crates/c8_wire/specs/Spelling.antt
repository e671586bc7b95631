-- The one spelling of each packet. Numbers are big-endian.
use Rattle.std.specs.Prelude.{◌≡◌, ℕ, List, [], ◌∷◌, ◌++◌, length}
use Rattle.std.specs.List.{flat_map}
use Rattle.byteorder.specs.Endian.{big_bytes}
use Rattle.c8_game.specs.declared.row.Keys.{Keys}
use Rattle.c8_game.specs.declared.row.Row.{Row}
use Rattle.c8_game.specs.declared.wire.WireVersion.{WireVersion}
use Rattle.c8_game.specs.declared.wire.WireVersion.TheVariants as versions
use Rattle.c8_game.specs.Wire.{version_number}
use Rattle.c8_pairs.specs.Pairs as pairs
use Rattle.c8_wire.specs.Kinds.{shape_of}
use Rattle.c8_wire.specs.Packet.{HeadValue, LeaverMessage, ShowMessage, Message, Hello, Welcome, Data, Freeze, Frozen, Cut, Show, Seen}
use Rattle.c8_wire.specs.Packet.{Packet, IsPacket}

-- The header of a datagram whose body has `size` bytes. Byte 2 is the number of the version.
abbrev pub header_bytes : HeadValue → ℕ → List ℕ
header_bytes head size =
    0x43 ∷ 0x38 ∷ version_number head.version ∷ (shape_of head.kind).code ∷ [] ++ big_bytes 8 head.session ++ head.from ∷ head.to ∷ []
    ++ big_bytes 2 size ++ big_bytes 4 head.sender_epoch ++ big_bytes 4 head.addressee_epoch

-- key sets, two bytes each
abbrev pub words_bytes : List ℕ → List ℕ
words_bytes words = flat_map (big_bytes 2) words

-- these bytes of a run are those of its key sets
abbrev pub SpellsWords : List ℕ → List ℕ → Type 0
SpellsWords bytes words = bytes ≡ words_bytes words

-- the inputs of a run: two bytes for each in version 1, a pair for each stretch of equal ones in version
-- 2
abbrev pub inputs_bytes : WireVersion → List ℕ → List ℕ
inputs_bytes versions.One words = words_bytes words
inputs_bytes versions.Two words = pairs.spelling words

-- a run: its start, its count, its inputs
abbrev pub run_bytes : WireVersion → ℕ → List ℕ → List ℕ
run_bytes version start words = big_bytes 4 start ++ big_bytes 2 (length words) ++ inputs_bytes version words

-- the leaver, a byte 0, a number of its inputs, and a run of them
abbrev pub leaver_bytes : WireVersion → LeaverMessage → List ℕ
leaver_bytes version m = m.leaver ∷ 0 ∷ [] ++ big_bytes 4 m.length ++ run_bytes version m.start m.words

-- a row: its key sets, player one's first
abbrev pub row_bytes : Row → List ℕ
row_bytes row = flat_map (λ (keys : Keys). big_bytes 2 keys.0) row.sets

abbrev pub rows_bytes : List Row → List ℕ
rows_bytes rows = flat_map row_bytes rows

-- rows: their start, their count, the rows
abbrev pub show_bytes : ShowMessage → List ℕ
show_bytes m = big_bytes 4 m.start ++ big_bytes 2 (length m.rows) ++ rows_bytes m.rows

abbrev pub body_bytes : WireVersion → Message → List ℕ
body_bytes version Hello = []
body_bytes version (Welcome ack) = big_bytes 4 ack
body_bytes version (Data m) = big_bytes 4 m.ack ++ big_bytes 4 m.mark_frame ++ m.mark ++ run_bytes version m.start m.words
body_bytes version (Freeze m) = m.leaver ∷ 0 ∷ [] ++ big_bytes 4 m.have
body_bytes version (Frozen m) = leaver_bytes version m
body_bytes version (Cut m) = leaver_bytes version m
body_bytes version (Show m) = show_bytes m
body_bytes version (Seen ack) = big_bytes 4 ack

unfoldable pub spelling : Packet → List ℕ
spelling p = header_bytes p.head (length (body_bytes p.head.version p.message)) ++ body_bytes p.head.version p.message

-- these bytes are the datagram with this content
pub record Spells (bytes : List ℕ) (p : Packet) : Type 0 where
  pub packet : IsPacket p
  pub spelled : bytes ≡ spelling p
