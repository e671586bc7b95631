-- In all frames before this one both players have the same rows.
use Rattle.std.proofs.Common.{◌≡◌, ℕ, ◌<◌}
use Rattle.c8_known.specs.Confirmed.{row}
use Rattle.c8_audit.proofs.agreed.first_different.Given as goal

-- the rows so far are the same
abbrev pub invariant-loop-frame : goal.invariant-loop-frame
invariant-loop-frame l = (k : ℕ) → k < l.frame → row l.a k ≡ row l.b k
