-- There are no more rows than a game may have frames, so their number fits 32 bits.
use Rattle.std.proofs.Common.{rules}
use Rattle.c8_spectator.proofs.spectator.Spectator.count.Goals as goal

-- with this answer a wrong body is refused at once
pub returns-clause-count : goal.returns-clause-count
returns-clause-count c = search rules
