-- The ticks that are known are those that the journal has.
use Rattle.std.proofs.Common.{◌∙◌}
use Rattle.c8_peer.proofs.ReaderLemmas.{ticks_are}
use Rattle.c8_peer.proofs.peer.Peer.now.Goals as goal

pub returns : goal.returns
returns g c = c.ticks.ensures ∙ ticks_are c.args.self.now c.self.inside.game.now c.self.inside.room c.self.inside.journal
    c.self.inside.known c.self.inside.memory c.self.view_is c.self.invariant.0
