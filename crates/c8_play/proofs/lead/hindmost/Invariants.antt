-- Found is the one with the fewest inputs of the uncut others with a lower number, if there is one.
use Rattle.c8_play.specs.checked.Hindmost.{FoundBelow}
use Rattle.c8_play.proofs.lead.hindmost.Given as goal

abbrev pub invariant-loop-number : goal.invariant-loop-number
invariant-loop-number g l = FoundBelow l.peer l.number l.found
