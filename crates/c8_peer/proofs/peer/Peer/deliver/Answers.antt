-- Bytes that are a datagram are read as its packet, so to hear the datagram is to hear the bytes.
use Rattle.std.proofs.Common.{sym, subst}
use Rattle.c8_peer.specs.State.{Deliver, Delivered}
use Rattle.c8_peer.specs.Peer.{IsAnswered}
use Rattle.c8_peer.proofs.peer.Peer.deliver.Goals as goal

pub returns-in-Ok : goal.returns-in-Ok
returns-in-Ok g c =
    subst (λ told. IsAnswered g.D.Disk c.args.self.now (Deliver told) (Delivered c.deliver_datagram.result) c.deliver_datagram.new.self)
    (sym c.in-Ok.ensures.answer) c.deliver_datagram.ensures
