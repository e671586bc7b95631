-- A sound peer's disk, read now or left by a crash, keeps the journal with the pending record or without; for c8_world.
use Rattle.c8_peer.proofs.RunLemmas.{left_bodies, left_records, inside_call}
use Rattle.c8_peer.proofs.laws.what_disks_tell.Goals as goal

pub returns-clause-reading : goal.returns-clause-reading
returns-clause-reading g c p sound = left_bodies g.D.Disk p (g.D.Disk.seen p.disk) sound (g.met.D.Disk.reads_now p.disk)

pub returns-clause-bodies : goal.returns-clause-bodies
returns-clause-bodies g c = left_bodies g.D.Disk

pub returns-clause-records : goal.returns-clause-records
returns-clause-records g c = left_records g.D.Disk

pub returns-clause-inside : goal.returns-clause-inside
returns-clause-inside g c = inside_call
