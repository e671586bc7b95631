-- The fault is the least of the players with a lower number, or they have none.
use Rattle.c8_audit.specs.Read.{all_seen}
use Rattle.c8_audit.specs.Search.{IsLeastBelow}
use Rattle.c8_audit.proofs.search.least_fault.Given as goal

abbrev pub invariant-loop-number : goal.invariant-loop-number
invariant-loop-number l = IsLeastBelow l.question (all_seen l.journals) l.number l.least
