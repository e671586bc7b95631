-- All slots of the blocks read so far are open, and each block took one read.
use Rattle.std.proofs.Common.{◌≡◌, ◌*◌, Ok}
use Rattle.c8_disk.specs.Runs.{ReadsOnly}
use Rattle.c8_disk.specs.Asks.{Asks, Reads}
use Rattle.c8_log.proofs.Blocks.{AreOpen}
use Rattle.c8_log.proofs.end.read_end.Given as goal

abbrev pub invariant-loop-number : goal.invariant-loop-number
invariant-loop-number g l = record {
  below : AreOpen (g.D.Disk.seen l.initial.disk) (32 * l.number);
  reads : ReadsOnly g.D.Disk l.initial.disk l.disk;
  asks : Asks g.D.Disk (Reads l.number) (Ok tt) l.initial.disk l.disk;
  unfailed : g.D.Disk.failures l.disk ≡ g.D.Disk.failures l.initial.disk;
}
