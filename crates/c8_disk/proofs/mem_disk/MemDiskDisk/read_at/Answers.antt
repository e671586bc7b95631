-- A served read uses up a call of the budget, and adds no image and no moment.
use Rattle.std.proofs.Common.{rules}
use Rattle.c8_disk.proofs.mem_disk.MemDiskDisk.read_at.Goals as goal

pub returns-clause-crash : goal.returns-clause-crash
returns-clause-crash c = search rules

pub returns-clause-time : goal.returns-clause-time
returns-clause-time c = search rules

pub returns-clause-value : goal.returns-clause-value
returns-clause-value c = search rules

pub invariant_of-self-2 : goal.invariant_of-self-2
invariant_of-self-2 c = search rules
