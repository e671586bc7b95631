-- The marks of a checkpoint, frame by frame.
use Rattle.std.specs.Prelude.{◌≡◌, ℕ, ◌+◌, ◌*◌, ◌<◌, List, take, drop, Option, Some, None}
use Rattle.c8_game.specs.Rules.{Rules}
use Rattle.c8_machine.specs.Serial.{serial}
use Rattle.c8_digest.specs.StateBytes.{mark_of}
use Rattle.c8_digest.specs.Marks.{mark_step, mark_length, marks_after, forgotten_after}
use Rattle.c8_known.specs.Known.{KnownValue}
use Rattle.c8_known.specs.Confirmed.{rows_below}
use Rattle.c8_digest.specs.Origin.{Origin}
use Rattle.c8_roll.specs.Roll.{IsOnTheWay}
use Rattle.c8_audit.specs.Journals.{Seen}

-- These bytes are the marks after `frames` frames. If they have a mark for `frame`, it is this one.
abbrev pub HasMark : ℕ → List ℕ → ℕ → List ℕ → Type 0
HasMark frames marks frame mark = (k : ℕ) → k < marks_after frames → mark_step * (forgotten_after frames + k) ≡ frame
    → take mark_length (drop (mark_length * k) marks) ≡ mark

-- the marks for frames below a number are those of the serial run
abbrev pub HaveMarksBelow : Rules → KnownValue → ℕ → List ℕ → ℕ → Type 0
HaveMarksBelow rules k frames marks end = (frame : ℕ) → frame < end → HasMark frames marks frame (mark_of (serial rules (rows_below k frame)))

-- the last checkpoint is true, if the journal is given and has one
abbrev pub IsTrueAt : Rules → Option Seen → Type 0
IsTrueAt rules None = Unit {0}
IsTrueAt rules (Some s) = (from : Origin) → s.last ≡ Some from → IsOnTheWay rules s.first from
