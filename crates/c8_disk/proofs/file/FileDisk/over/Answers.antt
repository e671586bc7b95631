-- A disk whose file was locked, made durable and read is not down.
use Rattle.std.proofs.Common.{rules}
use Rattle.c8_disk.proofs.file.FileDisk.over.Goals as goal

pub returns-clause-down : goal.returns-clause-down
returns-clause-down g c = search rules
