-- If the node's peer is open, it was asked to cut the leaver's list, and answered by that call's contract.
use Rattle.std.proofs.Common.{ap, ◌∙◌}
use Rattle.c8_peer.specs.Peer.{mode_of}
use Rattle.c8_world.proofs.node.Node.decide.Goals as goal

pub returns-else-is_down-clause-turn : goal.returns-else-is_down-clause-turn
returns-else-is_down-clause-turn c = rw c.in-Held.is
    (c.is_down.ensures.value ∙ ap mode_of c.if-is_down.false, c.is_down.ensures.sound, c.decide.ensures)
