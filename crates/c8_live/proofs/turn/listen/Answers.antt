-- What is heard between two turns is a run of deliveries.
use Rattle.std.proofs.Common.{sym, subst}
use Rattle.c8_peer.specs.Peer.{PeerValue}
use Rattle.c8_session.specs.Notes.{Notes, notes_of}
use Rattle.c8_transport.specs.Wire.{most_packets}
use Rattle.c8_live.specs.Owed.{HasNoted}
use Rattle.c8_live.proofs.turn.listen.Goals as goal

pub returns-clause-ran : goal.returns-clause-ran
returns-clause-ran g c = rw (sym c.forget_rollbacks.ensures.peer) c.hear.ensures.noted.heard.heard.0.ran

pub returns-clause-heard : goal.returns-clause-heard
returns-clause-heard g c = rw (sym c.forget_rollbacks.ensures.peer) c.hear.ensures.noted.heard

pub returns-clause-noted : goal.returns-clause-noted
returns-clause-noted g c =
    let heard = c.hear.new.session in
    subst (λ (p : PeerValue g.row.D.Denot). HasNoted g.D.Disk g.W.Wire most_packets p heard.peer (notes_of c.args.session.now) (notes_of heard)
    c.args.wire.now c.hear.new.wire) c.forget_rollbacks.ensures.peer
    (subst (λ (notes : Notes). HasNoted g.D.Disk g.W.Wire most_packets c.forget_rollbacks.new.self.peer heard.peer notes (notes_of heard)
    c.args.wire.now c.hear.new.wire) c.forget_rollbacks.ensures.notes c.hear.ensures.noted)
