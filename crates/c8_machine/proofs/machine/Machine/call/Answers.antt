-- A call that finds all 16 places of the stack in use stops the machine and changes nothing else.
use Rattle.std.proofs.Common.{rules}
use Rattle.c8_machine.proofs.machine.Machine.call.Goals as goal

pub returns-then-is_full : goal.returns-then-is_full
returns-then-is_full c = search rules
