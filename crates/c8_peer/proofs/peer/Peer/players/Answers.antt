-- A peer knows of as many players as its game has.
use Rattle.std.proofs.Common.{◌∙◌}
use Rattle.c8_peer.proofs.ReaderLemmas.{players_are}
use Rattle.c8_peer.proofs.peer.Peer.players.Goals as goal

pub returns-clause-value : goal.returns-clause-value
returns-clause-value g c = c.players.ensures.value
    ∙ players_are c.args.self.now c.self.inside.game.now c.self.inside.room c.self.inside.journal c.self.inside.known c.self.inside.memory
    c.self.view_is c.self.invariant.0
