-- A failure of the net thread may end the session, but it changes nothing in the run of the peer.
use Rattle.c8_net.proofs.stage.fn.move_and_turn.scope.Goals as goal

pub returns : goal.returns
returns g c = c.after.ensures c.captures.turner.session.peer c.make_turns-ended.ensures
