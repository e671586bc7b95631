-- The inbox took some of the packets that the wire gave, in order, and nothing was sent.
use Rattle.std.proofs.Common.{◌≡◌}
use Rattle.c8_live.specs.Parts.{IsHandedOn}
use Rattle.c8_live.proofs.net.take_in.Given as goal

abbrev pub invariant-loop : goal.invariant-loop
invariant-loop g l = record {
  received : IsHandedOn (g.W.Wire.received l.initial.wire) (g.W.Wire.received l.wire) l.initial.inbox.put l.inbox.put;
  sent : g.W.Wire.sent l.wire ≡ g.W.Wire.sent l.initial.wire;
  inbox : l.inbox.inlet ≡ l.initial.inbox.inlet;
}
