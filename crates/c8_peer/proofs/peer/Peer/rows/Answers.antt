-- The rows are lent from what is known, and that is what the journal says.
use Rattle.c8_peer.proofs.ReaderLemmas.{known_is, players_are}
use Rattle.c8_peer.proofs.peer.Peer.rows.Goals as goal

pub returns-clause-known : goal.returns-clause-known
returns-clause-known g c =
    known_is c.args.self.now c.self.inside.game.now c.self.inside.room c.self.inside.journal c.self.inside.known c.self.inside.memory
    c.self.view_is c.self.invariant.0

pub returns-clause-players : goal.returns-clause-players
returns-clause-players g c =
    players_are c.args.self.now c.self.inside.game.now c.self.inside.room c.self.inside.journal c.self.inside.known c.self.inside.memory
    c.self.view_is c.self.invariant.0
