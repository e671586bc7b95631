-- The rules let no list of a journal grow beyond the game's frames and the delay.
use Rattle.std.proofs.Common.{arith}
use Rattle.c8_peer.proofs.ReaderLemmas.{counts_few}
use Rattle.c8_peer.proofs.peer.Peer.count.Goals as goal

pub returns-clause-within : goal.returns-clause-within
returns-clause-within g c =
    let few = counts_few c.args.self.now c.self.inside.game.now c.self.inside.room c.self.inside.journal c.self.inside.known
    c.self.inside.memory c.args.player.number c.self.view_is c.self.invariant.0 in
    omega (arith, few, c.count.ensures.value)
