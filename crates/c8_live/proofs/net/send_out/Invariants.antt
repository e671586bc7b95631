-- The wire took some of the packets that left the outbox, in order, and gave none.
use Rattle.std.proofs.Common.{◌≡◌}
use Rattle.c8_live.specs.Parts.{IsHandedOn}
use Rattle.c8_live.proofs.net.send_out.Given as goal

abbrev pub invariant-loop : goal.invariant-loop
invariant-loop g l = record {
  sent : IsHandedOn l.initial.outbox.taken l.outbox.taken (g.W.Wire.sent l.initial.wire) (g.W.Wire.sent l.wire);
  received : g.W.Wire.received l.wire ≡ g.W.Wire.received l.initial.wire;
  outbox : l.outbox.inlet ≡ l.initial.outbox.inlet;
}
