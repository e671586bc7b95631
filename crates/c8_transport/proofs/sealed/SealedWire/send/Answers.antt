-- The wire below takes or loses the sealed packet, which opens to the datagram that was to be sent.
use Rattle.c8_transport.proofs.WireLemmas.{sealed_passed, may_take_sealed}
use Rattle.c8_transport.proofs.sealed.SealedWire.send.Goals as goal

pub returns-in-Ok-clause-sent : goal.returns-in-Ok-clause-sent
returns-in-Ok-clause-sent g c = may_take_sealed c.args.self.now.sealer c.seal.new.self c.args.datagram.now c.seal.new.out c.in-Ok.size _ _
    c.in-Ok.ensures.sealed c.send.ensures.sent

pub returns-in-Ok-clause-passed : goal.returns-in-Ok-clause-passed
returns-in-Ok-clause-passed g c = sealed_passed g.W.Wire c.args.self.now.sealer c.seal.new.self c.args.datagram.now c.seal.new.out
    c.in-Ok.size _ _ c.in-Ok.ensures.sealed c.send.ensures.sent c.send.ensures.received
