-- 00EE jumps to the newest return address and takes it off, or stops the machine if there is none.
use Rattle.std.proofs.Common.{arith}
use Rattle.std.proofs.lemmas.Grind.{common_steps}
use Rattle.c8_machine.proofs.machine.Machine.go_back.Goals as goal

pub returns : goal.returns
returns c = grind (arith, common_steps)
