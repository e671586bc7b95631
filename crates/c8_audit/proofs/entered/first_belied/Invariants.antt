-- In no frame before this one the own journal has another input.
use Rattle.std.proofs.Common.{ℕ, ◌<◌}
use Rattle.c8_audit.specs.Frames.{IsBelied}
use Rattle.c8_audit.proofs.entered.first_belied.Given as goal

abbrev pub invariant-loop-frame : goal.invariant-loop-frame
invariant-loop-frame l = (k : ℕ) → k < l.frame → IsBelied l.by l.cut l.own l.player.number k → ⊥
