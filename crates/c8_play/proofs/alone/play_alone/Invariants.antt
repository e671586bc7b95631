-- The machine is the serial run of one row a frame, each of the keys that were held in that frame.
use Rattle.std.specs.Prelude.{◌≡◌, ◌≤◌, List, length}
use Rattle.c8_game.specs.declared.row.Row.{Row}
use Rattle.c8_machine.specs.State.{state}
use Rattle.c8_machine.specs.Serial.{serial}
use Rattle.c8_play.specs.Alone.{AreFramesAlone}
use Rattle.c8_play.proofs.alone.play_alone.Given as goal

-- the frames so far were played on the rows that were held down
abbrev pub invariant-loop-frame : goal.invariant-loop-frame
invariant-loop-frame g l = record {
  rows : List Row;
  counted : l.played.frames ≡ l.frame;
  frames : l.played.frames ≡ length rows;
  few : l.played.frames ≤ l.frames;
  machine : state l.played.machine ≡ serial l.game rows;
  frames_are : AreFramesAlone g.C.Console l.game l.frame rows l.fn.desk l.desk;
}
