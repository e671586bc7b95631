-- The own player ticks no further than the last frame of the game, and no frame is confirmed before its tick.
use Rattle.std.proofs.Common.{arith}
use Rattle.c8_peer.proofs.ReaderLemmas.{confirmed_few}
use Rattle.c8_peer.proofs.peer.Peer.confirmed.Goals as goal

pub returns-clause-within : goal.returns-clause-within
returns-clause-within g c =
    let few = confirmed_few c.args.self.now c.self.inside.game.now c.self.inside.room c.self.inside.journal c.self.inside.known
    c.self.inside.memory c.self.view_is c.self.invariant.0 in
    omega (arith, few, c.confirmed.ensures)
