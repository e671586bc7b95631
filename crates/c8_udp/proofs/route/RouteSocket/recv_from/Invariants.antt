-- What was given so far were answers of the relay, and what was sent were JOINs: no packet was returned, and no datagram sent.
use Rattle.std.proofs.Common.{◌≡◌}
use Rattle.c8_udp.specs.Members.{HasAsked, HasHeard, IsSameRoute}
use Rattle.c8_udp.proofs.route.RouteSocket.recv_from.Given as goal

abbrev pub invariant-loop : goal.invariant-loop
invariant-loop g l = record {
  took : l.self.took.items ≡ l.initial.self.took.items;
  gave : l.self.gave.items ≡ l.initial.self.gave.items;
  member : IsSameRoute l.initial.self.member l.self.member;
  asked : HasAsked l.initial.self.member (g.S.Socket.took l.initial.self.socket) (g.S.Socket.took l.self.socket);
  heard : HasHeard (g.S.Socket.gave l.initial.self.socket) (g.S.Socket.gave l.self.socket);
}
