-- The disk of a session: a file, or memory that behaves like one.
use Rattle.std.specs.Prelude.{[]}
use mir.Syntax.{impl, tnil, dnil}
use Rattle.c8_disk.specs.declared.disk.Disk.{Ghosts}
use Rattle.c8_disk.specs.declared.file.FileDisk.{FileDisk}
use Rattle.c8_disk.specs.contracts.file.FileDiskDisk.TheImpl as as_disk
use Rattle.c8_embed.specs.declared.medium.Medium.{Medium}
use Rattle.c8_embed.specs.contracts.medium.Medium as row
use Rattle.c8_embed.specs.contracts.medium.MediumSystemFile.TheImpl as as_system
use Rattle.c8_embed.specs.contracts.medium.MediumFileExt.TheImpl as as_file

-- The model of a disk in a file depends only on the calls of the disk, not on the file.
abbrev pub disk : Ghosts (FileDisk Medium)
disk = as_disk.ghosts row.the_row as_system.ghosts as_system.dict as_file.ghosts as_file.dict (impl [] tnil dnil)
