-- What a player sees and what is confirmed: serial runs of the machine on what is known.
use Rattle.std.specs.Prelude.{◌≡◌, ◌≤◌, ℕ, ◌+◌, ◌-◌, ◌*◌, ◌/◌, List, ◌++◌, map}
use Rattle.std.specs.List.{range_with_len}
use Rattle.c8_game.specs.Rules.{Rules}
use Rattle.c8_machine.specs.State.{State}
use Rattle.c8_machine.specs.Serial.{serial}
use Rattle.c8_digest.specs.declared.marks.FrameMark.{FrameMark}
use Rattle.c8_digest.specs.StateBytes.{mark_of}
use Rattle.c8_digest.specs.Marks.{mark_step, kept}
use Rattle.c8_digest.specs.Origin.{Origin, run_since}
use Rattle.c8_known.specs.Known.{KnownValue}
use Rattle.c8_known.specs.Growth.{IsStillKnown}
use Rattle.c8_known.specs.Confirmed.{confirmed, rows_below, confirmed_rows, best_rows}

-- the mark of the machine after n confirmed frames
abbrev pub mark_since : Rules → Origin → KnownValue → ℕ → FrameMark
mark_since rules from k n = record { frame = n; mark = mark_of (run_since rules from (rows_below k n)) }

-- the last sixteen of the origin's marks and those at later multiples, up to a number of frames
abbrev pub marks_since : Rules → Origin → KnownValue → ℕ → List FrameMark
marks_since rules from k n =
    kept (from.marks ++ map (λ m. mark_since rules from k (mark_step * m))
    (range_with_len (from.frames / mark_step + 1) (n / mark_step - from.frames / mark_step)))

-- the machine and the marks after n confirmed frames
abbrev pub origin_at : Rules → Origin → KnownValue → ℕ → Origin
origin_at rules from k n = record { frames = n; machine = run_since rules from (rows_below k n); marks = marks_since rules from k n }

-- the same if everything is run from the first frame on
abbrev pub mark_after : Rules → KnownValue → ℕ → FrameMark
mark_after rules k n = record { frame = n; mark = mark_of (serial rules (rows_below k n)) }

abbrev pub marks_up_to : Rules → KnownValue → ℕ → List FrameMark
marks_up_to rules k n = kept (map (λ m. mark_after rules k (mark_step * m)) (range_with_len 0 (n / mark_step + 1)))

-- A roll: the game, how many ticks the own player has made, the shown machine, how many frames are
-- confirmed, the machine after these, and the marks.
pub record RollValue : Type 0 where
  pub rules : Rules
  pub ticks : ℕ
  pub shown : State
  pub confirmed : ℕ
  pub base : State
  pub marks : List FrameMark

-- the roll of what is known, run from an origin: shown is the run of the best rows, base that of the confirmed rows
unfoldable pub roll_since : Rules → Origin → KnownValue → RollValue
roll_since rules from k = record {
  rules = rules;
  ticks = k.ticks;
  shown = run_since rules from (best_rows k);
  confirmed = confirmed k;
  base = run_since rules from (confirmed_rows k);
  marks = marks_since rules from k (confirmed k);
}

-- the roll of what is known, run from the first frame on
unfoldable pub roll_of : Rules → KnownValue → RollValue
roll_of rules k = record {
  rules = rules;
  ticks = k.ticks;
  shown = serial rules (best_rows k);
  confirmed = confirmed k;
  base = serial rules (confirmed_rows k);
  marks = marks_up_to rules k (confirmed k);
}

-- An origin to which the confirmed rows lead: the machine and the marks are those of their run.
pub record IsOnTheWay (rules : Rules) (k : KnownValue) (from : Origin) : Type 0 where
  pub confirmed_is : from.frames ≤ confirmed k
  pub machine : from.machine ≡ serial rules (rows_below k from.frames)
  pub marks : from.marks ≡ marks_up_to rules k from.frames

-- the roll of what was known, run from this origin, which was confirmed
pub record IsRollSince (from : Origin) (before : KnownValue) (v : RollValue) : Type 0 where
  pub starts : from.frames ≤ confirmed before
  pub is : v ≡ roll_since v.rules from before

-- If the old roll is that of some knowledge, and all of this is still known, then the new roll is that
-- of what is known now, run from the same origin.
abbrev pub GrowsTo : RollValue → RollValue → KnownValue → Type 0
GrowsTo old new now = (from : Origin) (before : KnownValue) → IsRollSince from before old → IsStillKnown before now
    → new ≡ roll_since old.rules from now
