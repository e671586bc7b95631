-- What the socket gave so far was skipped: no packet was returned or sent, and no contact moved.
use Rattle.std.proofs.Common.{◌≡◌, List, ◌++◌}
use Rattle.c8_udp.specs.Letters.{LetterValue}
use Rattle.c8_udp.proofs.udp.UdpWire.receive.Given as goal

abbrev pub invariant-loop : goal.invariant-loop
invariant-loop g l = record {
  sent : l.self.traffic.sent.items ≡ l.initial.self.traffic.sent.items;
  received : l.self.traffic.received.items ≡ l.initial.self.traffic.received.items;
  contacts : l.self.contacts ≡ l.initial.self.contacts;
  gave : (skipped : List LetterValue) × (g.S.Socket.gave l.self.socket ≡ g.S.Socket.gave l.fn.self.socket ++ skipped);
}
