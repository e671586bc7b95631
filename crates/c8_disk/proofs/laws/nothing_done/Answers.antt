-- From the present moment on, a crash can only have left what it may leave now.
use Rattle.c8_disk.specs.checked.RunLaws.{nothing_done}
use Rattle.c8_disk.proofs.laws.nothing_done.Goals as goal

pub returns : goal.returns
returns g c disk = nothing_done g.D.Disk disk (g.D.Disk.may_leave disk) (g.met.D.Disk.only_now disk)
