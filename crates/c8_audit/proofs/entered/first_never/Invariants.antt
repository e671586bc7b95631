-- In each frame before this one the player entered the input, or it is empty behind the cut.
use Rattle.std.proofs.Common.{ℕ, ◌<◌}
use Rattle.c8_audit.specs.Frames.{WasEntered}
use Rattle.c8_audit.proofs.entered.first_never.Given as goal

-- in the frames so far the input was entered
abbrev pub invariant-loop-frame : goal.invariant-loop-frame
invariant-loop-frame l = (k : ℕ) → k < l.frame → WasEntered l.by l.cut l.own l.player.number k
