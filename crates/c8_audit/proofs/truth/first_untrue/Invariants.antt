-- The last checkpoints of all players with a lower number are true.
use Rattle.std.proofs.Common.{ℕ, ◌<◌, ◌≤◌}
use Rattle.c8_audit.specs.Read.{all_seen}
use Rattle.c8_audit.specs.Marked.{IsTrueAt}
use Rattle.c8_audit.proofs.truth.first_untrue.Given as goal

-- the checkpoints of the players so far are true
abbrev pub invariant-loop-number : goal.invariant-loop-number
invariant-loop-number l = (p : ℕ) → 1 ≤ p → p < l.number → IsTrueAt l.game (all_seen l.journals p)
