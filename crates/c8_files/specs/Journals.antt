-- The disk of a journal: a file, or memory.
use Rattle.std.specs.Prelude.{[]}
use mir.Syntax.{impl, tnil, dnil, static}
use denote.Ref.{NamedLft}
use Rattle.c8_disk.specs.declared.disk.Disk.{Ghosts}
use Rattle.c8_disk.specs.declared.file.FileDisk.{FileDisk}
use Rattle.c8_disk.specs.declared.mem_disk.MemDisk.{MemDisk}
use Rattle.c8_disk.specs.contracts.file.FileDiskDisk.TheImpl as as_disk
use Rattle.c8_disk.specs.contracts.mem_disk.MemDiskDisk.TheImpl as as_memory
use Rattle.c8_files.specs.declared.journal.JournalDisk.{JournalDisk}
use Rattle.c8_files.specs.declared.journal.JournalDisk.TheVariants.{File, Memory}
use Rattle.c8_files.specs.declared.medium.Medium.{Medium}
use Rattle.c8_files.specs.contracts.medium.Medium as row
use Rattle.c8_files.specs.contracts.medium.MediumSystemFile.TheImpl as as_system
use Rattle.c8_files.specs.contracts.medium.MediumFileExt.TheImpl as as_file

-- a name for a lifetime, which no model depends on
abbrev any : NamedLft
any = record { mir = static; lft = [] }

-- The model of a disk in a file depends only on the calls of the disk, not on the file.
abbrev pub file_disk : Ghosts (FileDisk Medium)
file_disk = as_disk.ghosts (row.the_row any) as_system.ghosts as_system.dict as_file.ghosts as_file.dict (impl [] tnil dnil)

-- it holds of the disk of this journal, of whatever kind
abbrev pub OfDisk : ((D : Type 0) → Ghosts D → D → Type 0) → JournalDisk → Type 0
OfDisk P (File disk) = P (FileDisk Medium) file_disk disk
OfDisk P (Memory disk) = P MemDisk as_memory.ghosts disk
