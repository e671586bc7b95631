-- The machine before frame 0 is the serial run of no rows, and the reserved memory stays.
use Rattle.std.proofs.Common.{rules}
use Rattle.c8_spectator.proofs.spectator.Spectator.begin_again.Goals as goal

-- with this answer a wrong body is refused at once
pub invariant_of-self : goal.invariant_of-self
invariant_of-self c = search rules
