-- An armed disk keeps in a crash what it kept before: the journal, with the pending record or without.
use Rattle.c8_peer.proofs.ReaderLemmas.{leaves_kept}
use Rattle.c8_peer.proofs.peer.Peer.arm.Goals as goal

pub returns-clause-any_moment : goal.returns-clause-any_moment
returns-clause-any_moment g c =
    leaves_kept g.D.Disk c.args.self.now c.self.inside.game.now c.self.inside.room c.self.inside.journal c.arm.new.self.disk
    c.self.inside.known c.self.inside.memory c.self.view_is c.self.invariant.0
    c.arm.ensures.any_moment
