-- The number is the sum of the counts so far, and too small to overflow.
use Rattle.std.proofs.Common.{◌≡◌, ◌≤◌, ◌*◌, sum, take}
use Rattle.c8_terminal.proofs.beat.Lateness.all.Given as goal

abbrev pub invariant-loop-frames : goal.invariant-loop-frames
invariant-loop-frames l = record {
  all : l.all ≡ sum (take l.frames-index l.self.frames);
  few : l.all ≤ l.frames-index * 4_294_967_295;
}
