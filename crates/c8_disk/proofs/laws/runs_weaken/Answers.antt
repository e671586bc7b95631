-- Each image of a run has what follows from a property that all of them have.
use Rattle.c8_disk.specs.checked.RunLaws.{weaker}
use Rattle.c8_disk.proofs.laws.runs_weaken.Goals as goal

pub returns : goal.returns
returns g c old new p q = weaker g.D.Disk old new (g.P.Property.has p) (g.Q.Property.has q)
