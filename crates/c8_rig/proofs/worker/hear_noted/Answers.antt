-- A delivery of these bytes, under whatever number, is the call in which the peer hears what they spell.
use Rattle.std.proofs.Common.{arith}
use Rattle.c8_rig.proofs.worker.hear_noted.Goals as goal

pub returns : goal.returns
returns g c e number player = c.peers_play_on.ensures.hears e c.args.peer.now c.deliver-heard.new.self number player c.args.bytes.now _
    (λ i. omega (arith, c.type_inv.bytes i)) c.deliver-heard.ensures
