-- The outbox's packets went to the wire and the wire's into the inbox, each in order, some of them lost.
use Rattle.std.proofs.Common.{◌≡◌}
use Rattle.c8_live.specs.Parts.{IsHandedOn}
use Rattle.c8_live.proofs.net.net_worker.Given as goal

abbrev pub invariant-loop : goal.invariant-loop
invariant-loop g l = record {
  sent : IsHandedOn l.initial.outbox.taken l.outbox.taken (g.W.Wire.sent l.initial.wire) (g.W.Wire.sent l.wire);
  received : IsHandedOn (g.W.Wire.received l.initial.wire) (g.W.Wire.received l.wire) l.initial.inbox.put l.inbox.put;
  outbox : l.outbox.inlet ≡ l.initial.outbox.inlet;
  inbox : l.inbox.inlet ≡ l.initial.inbox.inlet;
}
