-- A sync that fails takes the disk down and is not noted: it may have made nothing durable.
use Rattle.std.proofs.Common.{rules}
use Rattle.c8_disk.proofs.file.FileDiskDisk.sync.Goals as goal

pub returns-then-self-clause-unnoted : goal.returns-then-self-clause-unnoted
returns-then-self-clause-unnoted g c = search rules

pub returns-then-self-clause-down : goal.returns-then-self-clause-down
returns-then-self-clause-down g c = search rules
