-- The count is the least of those who stay and have a lower number, or there is no such player.
use Rattle.c8_audit.specs.Counts.{IsLesserBelow}
use Rattle.c8_audit.specs.Read.{all_seen}
use Rattle.c8_audit.proofs.count.least_count.Given as goal

abbrev pub invariant-loop-number : goal.invariant-loop-number
invariant-loop-number l = IsLesserBelow (all_seen l.journals) l.number l.least
