-- A write that fails in the file may be torn there, so it is noted as one that succeeds is.
use Rattle.std.proofs.Common.{rules}
use Rattle.c8_disk.proofs.file.FileDiskDisk.write_at.Goals as goal

-- with this answer a wrong body is refused at once
pub returns-then-is_err-clause-noted_failed : goal.returns-then-is_err-clause-noted_failed
returns-then-is_err-clause-noted_failed g c = search rules
