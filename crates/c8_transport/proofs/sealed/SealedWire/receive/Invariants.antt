-- All packets that the wire below gave so far were judged, and the sealer took none of them.
use Rattle.std.proofs.Common.{◌≡◌}
use Rattle.c8_transport.specs.Wires.{HasOpened}
use Rattle.c8_transport.proofs.sealed.SealedWire.receive.Given as goal

abbrev pub invariant-loop : goal.invariant-loop
invariant-loop g l = record {
  sealer : l.self.sealer ≡ l.fn.self.sealer;
  opened : HasOpened g.W.Wire l.fn.self.sealer l.self.sealer l.fn.self.below l.self.below;
}
