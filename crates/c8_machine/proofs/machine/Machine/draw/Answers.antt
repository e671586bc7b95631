-- DXYN flips the sprite's points, and the flag is 1 exactly if it put one of them out.
use Rattle.std.proofs.Common.{rules}
use Rattle.c8_machine.proofs.machine.Machine.draw.Goals as goal

pub returns : goal.returns
returns c = search rules
