-- If the node's peer is open, it took or refused the key set by the contract of a tick.
use Rattle.std.proofs.Common.{ap, ◌∙◌}
use Rattle.c8_peer.specs.Peer.{mode_of}
use Rattle.c8_world.proofs.node.Node.tick.Goals as goal

pub returns-in-Ok-clause-turn : goal.returns-in-Ok-clause-turn
returns-in-Ok-clause-turn c = rw c.in-Held.is (c.is_down.ensures.value ∙ ap mode_of c.if-is_down.false, c.is_down.ensures.sound, c.in-Ok.ensures)

pub returns-in-Err-clause-turn : goal.returns-in-Err-clause-turn
returns-in-Err-clause-turn c = rw c.in-Held.is (c.is_down.ensures.value ∙ ap mode_of c.if-is_down.false, c.is_down.ensures.sound, c.in-Err.ensures)
