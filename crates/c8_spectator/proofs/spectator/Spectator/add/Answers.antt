-- One more row is one more frame of the serial run, and its memory was reserved when the watcher was made.
use Rattle.std.proofs.Common.{rules}
use Rattle.c8_spectator.proofs.spectator.Spectator.add.Goals as goal

-- with this answer a wrong body is refused at once
pub invariant_of-self : goal.invariant_of-self
invariant_of-self c = search rules

pub returns : goal.returns
returns c = search rules
