-- The note has the bytes that the peer said; saying changes no peer, so without memory for the note nothing changes.
use Rattle.std.proofs.Common.{take}
use Rattle.c8_peer.specs.Asked.{saying_of}
use Rattle.c8_rig.proofs.Playing.{noted}
use Rattle.c8_rig.proofs.worker.Seat.say.Goals as goal

pub returns-in-Ok : goal.returns-in-Ok
returns-in-Ok g c =
    let seat = c.args.self.now in
    noted _ seat.entry seat.peer _ _ c.post.result
    (c.peers_play_on.ensures.says seat.entry seat.peer c.me.result.number c.args.to.number (saying_of c.args.kind)
    (take c.in-Ok.size c.say.new.out) c.in-Ok.ensures.said)
    c.post.ensures.ok c.post.ensures.err
