-- The notes of the turns so far lead from the peer at first to the present one.
use Rattle.c8_rig.specs.Players.{HasPlayed}
use Rattle.c8_rig.proofs.worker.Seat.play.Given as goal

abbrev pub invariant-loop-turn : goal.invariant-loop-turn
invariant-loop-turn g l = HasPlayed g.D.Disk l.initial.self.entry l.initial.self.peer l.self.entry l.self.peer
