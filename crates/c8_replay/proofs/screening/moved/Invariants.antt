-- On the way to the later frame the machine is the serial run of the rows before this one.
use Rattle.std.proofs.Common.{◌≡◌}
use Rattle.c8_known.specs.Confirmed.{rows_below}
use Rattle.c8_machine.specs.Serial.{serial}
use Rattle.c8_machine.specs.State.{state}
use Rattle.c8_replay.proofs.screening.moved.Given as goal

-- the rows so far were run
abbrev pub invariant-loop-frame : goal.invariant-loop-frame
invariant-loop-frame l = state l.machine ≡ serial l.game (rows_below l.known l.frame)
