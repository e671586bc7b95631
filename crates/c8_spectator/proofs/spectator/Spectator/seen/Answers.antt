-- A SEEN spells how many rows the watcher has, in 28 bytes.
use Rattle.std.proofs.Common.{rules}
use Rattle.c8_wire.specs.Spelling.{spelling}
use Rattle.c8_spectator.proofs.spectator.Spectator.seen.Goals as goal

pub returns-clause-length : goal.returns-clause-length
unfolding spelling
returns-clause-length c = c.write.ensures.length

pub returns-clause-spelled : goal.returns-clause-spelled
returns-clause-spelled c = search rules
