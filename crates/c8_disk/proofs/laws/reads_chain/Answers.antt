-- A run that only reads adds no image, so it may follow any run, and another such run.
use Rattle.c8_disk.specs.checked.RunLaws.{reads_then, then_reads}
use Rattle.c8_disk.proofs.laws.reads_chain.Goals as goal

pub returns-clause-reads : goal.returns-clause-reads
returns-clause-reads g c = reads_then g.D.Disk

pub returns-clause-runs : goal.returns-clause-runs
returns-clause-runs g c old mid new p = then_reads g.D.Disk g.met.D.Disk.counts_now old mid new (g.P.Property.has p)
