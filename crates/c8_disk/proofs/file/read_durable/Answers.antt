-- A file longer than the capacity is refused, so what is read is within it.
use Rattle.std.proofs.Common.{rules}
use Rattle.c8_disk.proofs.file.read_durable.Goals as goal

pub returns-clause-within : goal.returns-clause-within
returns-clause-within g c = search rules
