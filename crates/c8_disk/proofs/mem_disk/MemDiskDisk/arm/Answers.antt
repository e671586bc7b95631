-- To arm a disk changes which calls fail and which values it was armed with, and nothing else.
use Rattle.std.proofs.Common.{rules}
use Rattle.c8_disk.proofs.mem_disk.MemDiskDisk.arm.Goals as goal

pub returns-clause-told : goal.returns-clause-told
returns-clause-told c = search rules
