-- 8XY4 leaves the sum of VX and VY modulo 256, and then the flag 1 exactly if the sum is above 255.
use Rattle.std.proofs.Common.{rules}
use Rattle.c8_machine.proofs.machine.Machine.add.Goals as goal

pub returns : goal.returns
returns c = search rules
