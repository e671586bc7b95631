-- All of a log that is up is synced, so each image keeps the bodies that it counts.
use Rattle.std.proofs.Common.{subst}
use Rattle.c8_log.specs.Log.{IsLog}
use Rattle.c8_log.proofs.Repair.{rests}
use Rattle.c8_log.proofs.log.Log.is_down.Goals as goal

pub returns-clause-at_rest : goal.returns-clause-at_rest
returns-clause-at_rest g c up = rests g.D.Disk c.args.self.now (subst (IsLog g.D.Disk) c.self.view_is c.self.invariant up)
