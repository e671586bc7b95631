-- The machine is the serial run up to this frame, and the marks for earlier frames are that run's.
use Rattle.std.proofs.Common.{◌≡◌}
use Rattle.c8_known.specs.Confirmed.{rows_below}
use Rattle.c8_machine.specs.Serial.{serial}
use Rattle.c8_machine.specs.State.{state}
use Rattle.c8_audit.specs.Marked.{HaveMarksBelow}
use Rattle.c8_audit.proofs.truth.is_on_the_way.Given as goal

-- the rows so far were run, and the checkpoint has the marks on the way
abbrev pub invariant-loop-frame : goal.invariant-loop-frame
invariant-loop-frame l = record {
  run : state l.machine ≡ serial l.game (rows_below l.known l.frame);
  marks : HaveMarksBelow l.game l.known l.last.frames l.last.marks l.frame;
}
