-- The parts of a peer make it sound, which each caller may rely on; the peer's other calls get it from here.
use Rattle.c8_peer.proofs.ReaderLemmas.{peer_sound}
use Rattle.c8_peer.proofs.peer.Peer.is_down.Goals as goal

pub returns-clause-sound : goal.returns-clause-sound
returns-clause-sound g c =
    peer_sound g.D.Disk c.args.self.now c.self.inside.game.now c.self.inside.room c.self.inside.journal c.self.inside.known
    c.self.inside.memory c.self.view_is c.self.invariant.0
    c.is_down.ensures.keeps c.is_down.ensures.up c.is_down.ensures.still
