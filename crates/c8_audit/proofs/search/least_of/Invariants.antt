-- The fault is the player's least with others of a lower number, or there is none with them.
use Rattle.c8_audit.specs.Read.{all_seen}
use Rattle.c8_audit.specs.Search.{IsLeastOf}
use Rattle.c8_audit.proofs.search.least_of.Given as goal

abbrev pub invariant-loop-number : goal.invariant-loop-number
invariant-loop-number l = IsLeastOf l.question (all_seen l.journals) l.one.number l.number l.least
