-- The numbers of the errors, as programs print them.
use Rattle.std.specs.Prelude.{ℕ}
use Rattle.c8_disk.specs.declared.error.DiskError.{DiskError}
use Rattle.c8_disk.specs.declared.error.DiskError.TheVariants.{Failed, Full}
use Rattle.c8_disk.specs.declared.error.FileError.{FileError}
use Rattle.c8_disk.specs.declared.error.FileError.TheVariants.{Failed as FileFailed, Full as FileFull, Memory, Locked}

abbrev pub disk_number_of : DiskError → ℕ
disk_number_of Failed = 1
disk_number_of Full = 2

abbrev pub file_number_of : FileError → ℕ
file_number_of FileFailed = 1
file_number_of FileFull = 2
file_number_of Memory = 3
file_number_of Locked = 4
