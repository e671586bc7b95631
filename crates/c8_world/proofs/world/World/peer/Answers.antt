-- The lent peer has the journal of a world that was reached, so its checkpoints are true.
use Rattle.std.proofs.Common.{arith}
use Rattle.c8_world.proofs.TableLemmas.{lent_checked}
use Rattle.c8_world.proofs.world.World.peer.Goals as goal

pub returns-clause-checks : goal.returns-clause-checks
returns-clause-checks c =
    lent_checked (λ r. r.now) c.checkpoints_are_true.ensures c.self.inside.table c.self.invariant.now c.args.player.number c.peer.result
    c.in_range.ensures.rules c.in_range.ensures.room (omega arith)
    c.self.invariant.holds c.peer.ensures.plays c.peer.ensures.held
