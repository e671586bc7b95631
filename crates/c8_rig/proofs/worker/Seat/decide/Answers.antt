-- The note of a cut stands for player 1's call of `decide`, refused or not, so it leads to the peer after that.
use Rattle.std.proofs.Common.{rules}
use Rattle.c8_rig.proofs.Playing.{with_entry}
use Rattle.c8_rig.proofs.worker.Seat.decide.Goals as goal

pub returns : goal.returns
returns g c = with_entry _ _ _ _ _ _ (search rules) (c.peers_play_on.ensures.decides _ _ _ _ _ c.decide-decided.ensures)
