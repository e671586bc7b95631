-- The errors of the network that were skipped are no packets: nothing counts as sent or received.
use Rattle.std.proofs.Common.{◌≡◌}
use Rattle.c8_udp.proofs.ether.RelaySocketEther.receive.Given as goal

abbrev pub invariant-loop : goal.invariant-loop
invariant-loop l = record {
  sent : l.self.passed.sent.items ≡ l.initial.self.passed.sent.items;
  received : l.self.passed.received.items ≡ l.initial.self.passed.received.items;
}
