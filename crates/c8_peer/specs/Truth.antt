-- When a datagram is true: its sender's journal holds what it says.
use Rattle.std.specs.Prelude.{◌≡◌, ℕ, ◌*◌, ◌≤◌, List, ◌∷◌, ◌++◌, true, Some}
use Rattle.c8_game.specs.Rules.{Rules}
use Rattle.c8_machine.specs.Serial.{serial}
use Rattle.c8_digest.specs.StateBytes.{mark_of}
use Rattle.c8_wire.specs.Packet.{Message, Packet}
use Rattle.c8_wire.specs.Packet as packets
use Rattle.c8_known.specs.Journal.{Record, Freeze, held, count, had_epoch, has_leave, cut_of}
use Rattle.c8_known.specs.Known.{known_of}
use Rattle.c8_known.specs.Confirmed.{confirmed, rows_below, confirmed_rows}
use Rattle.c8_known.specs.Growth.{Stands}
use Rattle.c8_digest.specs.Marks.{mark_step}

-- the mark is that of the machine after the first `frame` confirmed rows, a multiple of 32
pub record IsTrueMark (rules : Rules) (me : ℕ) (journal : List Record) (frame : ℕ) (mark : List ℕ) : Type 0 where
  pub steps : ℕ
  pub at : frame ≡ mark_step * steps
  pub confirmed : frame ≤ confirmed (known_of rules me journal)
  pub is : mark ≡ mark_of (serial rules (rows_below (known_of rules me journal) frame))

-- The journal has a FREEZE of the leaver, and the records before it hold at most n of its inputs.
pub record IsFrozenAt (rules : Rules) (leaver n : ℕ) (journal : List Record) : Type 0 where
  pub before : List Record
  pub rest : List Record
  pub is : journal ≡ before ++ Freeze leaver ∷ rest
  pub few : count rules leaver before ≤ n

-- What a message says to player or watcher `to` is true of the journal of `me`. No player says SEEN.
abbrev pub IsTrueMessage : Rules → ℕ → ℕ → List Record → Message → Type 0
IsTrueMessage rules me to journal packets.Hello = Unit {0}
IsTrueMessage rules me to journal (packets.Welcome ack) = ack ≤ count rules to journal
IsTrueMessage rules me to journal (packets.Data d) =
    (d.ack ≤ count rules to journal) × Stands d.start d.words (held rules me journal) × IsTrueMark rules me journal d.mark_frame d.mark
IsTrueMessage rules me to journal (packets.Freeze f) = (me ≡ 1) × (has_leave f.leaver journal ≡ true) × (f.have ≤ count rules f.leaver journal)
IsTrueMessage rules me to journal (packets.Frozen f) =
    IsFrozenAt rules f.leaver f.length journal × (f.length ≤ count rules f.leaver journal) × Stands f.start f.words (held rules f.leaver journal)
IsTrueMessage rules me to journal (packets.Cut c) =
    (me ≡ 1) × (cut_of c.leaver journal ≡ Some c.length) × Stands c.start c.words (held rules c.leaver journal)
IsTrueMessage rules me to journal (packets.Show m) = (me ≡ 1) × Stands m.start m.rows (confirmed_rows (known_of rules me journal))
IsTrueMessage rules me to journal (packets.Seen ack) = ⊥

-- Only DATA carries a mark, so only DATA says something about the machine.
abbrev pub CarriesMark : Message → Type 0
CarriesMark packets.Hello = ⊥
CarriesMark (packets.Welcome ack) = ⊥
CarriesMark (packets.Data d) = Unit {0}
CarriesMark (packets.Freeze f) = ⊥
CarriesMark (packets.Frozen f) = ⊥
CarriesMark (packets.Cut c) = ⊥
CarriesMark (packets.Show m) = ⊥
CarriesMark (packets.Seen ack) = ⊥

-- The datagram is from this player, in an epoch that the journal has had, and what it says is true.
pub record IsTrue (rules : Rules) (me : ℕ) (journal : List Record) (p : Packet) : Type 0 where
  pub from : p.head.from ≡ me
  pub epoch : had_epoch p.head.sender_epoch journal ≡ true
  pub message : IsTrueMessage rules me p.head.to journal p.message
