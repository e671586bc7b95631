-- If the node's peer is open, it heard these bytes, with the contract of a delivery.
use Rattle.std.proofs.Common.{ap, ◌∙◌}
use Rattle.c8_peer.specs.Peer.{mode_of}
use Rattle.c8_world.proofs.node.Node.deliver.Goals as goal

pub returns-else-is_down-clause-turn : goal.returns-else-is_down-clause-turn
returns-else-is_down-clause-turn c = rw c.in-Held.is
    (c.is_down.ensures.value ∙ ap mode_of c.if-is_down.false, c.is_down.ensures.sound, c.deliver.ensures)
