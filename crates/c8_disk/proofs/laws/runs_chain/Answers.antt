-- What a crash leaves in one of two runs in a row has the property that both keep.
use Rattle.c8_disk.specs.checked.RunLaws.{then_run}
use Rattle.c8_disk.proofs.laws.runs_chain.Goals as goal

pub returns : goal.returns
returns g c old mid new p = then_run g.D.Disk old mid new (g.P.Property.has p)
