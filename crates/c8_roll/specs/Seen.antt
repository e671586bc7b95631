-- What a caller sees of a roll.
use Rattle.std.specs.Prelude.{ℕ, List, map}
use Rattle.c8_game.specs.declared.row.Row.{Row}
use Rattle.c8_machine.specs.State.{state}
use Rattle.c8_roll.specs.declared.timeline.Snapshot.{Snapshot}
use Rattle.c8_roll.specs.declared.roll.Roll.{Roll}
use Rattle.c8_roll.specs.Roll.{RollValue}
use Rattle.c8_roll.specs.checked.Timeline.{state_at}

abbrev pub value_of : Roll → RollValue
value_of roll = record {
  rules = roll.timeline.rules;
  ticks = roll.timeline.ticks;
  shown = state roll.timeline.shown;
  confirmed = roll.timeline.first;
  base = state_at roll.timeline 0;
  marks = roll.marks;
}

-- the kept rows with which the frames from the first unconfirmed one on were run
abbrev pub rows_run : Roll → List Row
rows_run roll = map (λ (s : Snapshot). s.row) roll.timeline.snapshots

-- how many frames the last call ran
abbrev pub last_run_of : Roll → ℕ
last_run_of roll = roll.timeline.last_run
