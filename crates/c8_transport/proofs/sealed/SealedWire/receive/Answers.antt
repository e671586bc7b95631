-- Each packet of the wire below is judged; a refused one leaves the sealer as it was, and the next one follows.
use Rattle.std.proofs.Common.{ap, ◌∙◌, sym, subst, Err, Ok}
use Rattle.c8_transport.specs.Given.{GivenValue}
use Rattle.c8_transport.specs.Sealer.{SealerValue}
use Rattle.c8_transport.specs.Wires.{HasOpened}
use Rattle.c8_transport.proofs.SealerLemmas.{unchanged}
use Rattle.c8_transport.proofs.WireLemmas.{next_opened}
use Rattle.c8_transport.proofs.sealed.SealedWire.receive.Goals as goal

pub returns-in-Ok-clause-opened : goal.returns-in-Ok-clause-opened
returns-in-Ok-clause-opened g c =
    let given : GivenValue = record { from = c.in-Ok.taken.from.number; counter = c.in-Ok.taken.counter; datagram = c.in-Ok.taken.datagram.now } in
    next_opened g.W.Wire c.args.self.now.sealer c.loop.self.sealer c.open.new.self c.args.self.now.below c.loop.self.below
    c.receive.new.self c.tell_sender.new.self c.receive.new.packet c.in-Some.size c.in_ok-size.field-0 (Ok given)
    c.loop.invariant.opened c.in-Some.is c.in_ok-size.ensures.received c.receive.ensures.sent c.tell_sender.ensures.received
    c.tell_sender.ensures.sent c.in-Ok.ensures.taken

pub loop-preserved : goal.loop-preserved
loop-preserved g c = record {
  sealer = c.turn_away.ensures.sealer ∙ unchanged c.loop.self.sealer _ c.in-Err.why c.open.new.self c.in-Err.ensures.taken ∙ c.loop.invariant.sealer;
  opened =
      subst (λ (new : SealerValue). HasOpened g.W.Wire c.args.self.now.sealer new c.args.self.now.below c.turn_away.new.self.below)
      (sym c.turn_away.ensures.sealer)
      (next_opened g.W.Wire c.args.self.now.sealer c.loop.self.sealer c.open.new.self c.args.self.now.below c.loop.self.below
      c.receive.new.self c.turn_away.new.self.below c.receive.new.packet c.in-Some.size c.in_ok-size.field-0 (Err c.in-Err.why)
      c.loop.invariant.opened c.in-Some.is c.in_ok-size.ensures.received c.receive.ensures.sent
      (ap g.W.Wire.received c.turn_away.ensures.below) (ap g.W.Wire.sent c.turn_away.ensures.below) c.in-Err.ensures.taken);
}
