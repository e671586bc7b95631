-- FX55 stores V0 to VX from I on, and I ends past them, modulo 4096.
use Rattle.std.proofs.Common.{rules}
use Rattle.c8_machine.proofs.machine.Machine.store_registers.Goals as goal

pub returns : goal.returns
returns c = search rules
