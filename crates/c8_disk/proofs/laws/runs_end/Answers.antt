-- What a read gives after a run, and what a crash leaves after it, are images of the run.
use Rattle.c8_disk.specs.checked.RunLaws.{at_the_end}
use Rattle.c8_disk.proofs.laws.runs_end.Goals as goal

pub returns-clause-read : goal.returns-clause-read
returns-clause-read g c old new p run =
    at_the_end g.D.Disk g.met.D.Disk.counts_now old new (g.P.Property.has p) run (g.D.Disk.seen new) (g.met.D.Disk.reads_now new)

pub returns-clause-crash : goal.returns-clause-crash
returns-clause-crash g c old new p run = at_the_end g.D.Disk g.met.D.Disk.counts_now old new (g.P.Property.has p) run
