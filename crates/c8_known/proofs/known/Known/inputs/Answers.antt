-- A part of a player's list is that part of its table.
use Rattle.std.proofs.Common.{arith}
use Rattle.std.proofs.lemmas.Grind.{common_steps}
use Rattle.c8_known.proofs.known.Known.inputs.Goals as goal

-- with this answer a wrong body is refused at once
pub returns : goal.returns
returns c = grind (arith, common_steps)
