-- The bodies before this one are the same in both readings.
use Rattle.std.proofs.Common.{◌≡◌, ℕ, ◌<◌}
use Rattle.std.specs.List.{slice_get}
use Rattle.c8_log.specs.Slots.{kept}
use Rattle.c8_audit.proofs.reading.goes_on.Given as goal

-- the bodies so far are the same
abbrev pub invariant-loop-n : goal.invariant-loop-n
invariant-loop-n l = (k : ℕ) → k < l.n → slice_get (kept l.first) k ≡ slice_get (kept l.later) k
