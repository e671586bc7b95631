-- What a crash left since an earlier moment is an image from before the run or one of the run.
use Rattle.c8_disk.specs.checked.RunLaws.{since_earlier}
use Rattle.c8_disk.proofs.laws.runs_go_on.Goals as goal

pub returns : goal.returns
returns g c old new p t = since_earlier g.D.Disk old new (g.P.Property.has p) t
