-- A player is frozen if its table has a FREEZE or a LEAVE of it.
use Rattle.std.proofs.Common.{arith}
use Rattle.std.proofs.lemmas.Grind.{common_steps}
use Rattle.c8_known.proofs.known.Known.frozen.Goals as goal

-- with this answer a wrong body is refused at once
pub returns-then-table : goal.returns-then-table
returns-then-table c = grind (arith, common_steps)

pub returns-else-table : goal.returns-else-table
returns-else-table c = grind (arith, common_steps)
