-- A datagram gives nobody a seat, and a JOIN only its sender the place that it names.
use Rattle.std.proofs.Common.{sym, subst, inl, inr, IsSome}
use Rattle.c8_relay.specs.declared.address.Lane.{Lane}
use Rattle.c8_relay.specs.declared.control.Route.{Route}
use Rattle.c8_relay.specs.Seating.{IsServed, seat_of}
use Rattle.c8_relay.proofs.StandingLemmas.{joins_lane, one_route}
use Rattle.c8_relay.proofs.relay.Relay.take.Goals as goal

pub returns-in-Datagram-clause-seats : goal.returns-in-Datagram-clause-seats
returns-in-Datagram-clause-seats c = λ other seat sits. inl ((c.forward.ensures.places other seat).0 sits)

pub returns-in-Datagram-clause-served : goal.returns-in-Datagram-clause-served
returns-in-Datagram-clause-served c = λ route to is served.
    let P : Route → Type 0 = λ r. IsServed c.args.now c.args.self.now.members c.args.from r to in
    c.forward.ensures.served to (subst P (one_route c.args.packet.now route c.in-Datagram.route is c.in-Datagram.ensures) served)

pub returns-in-Join-clause-seats : goal.returns-in-Join-clause-seats
returns-in-Join-clause-seats c = λ other seat sits. elim (c.join.ensures.seats other seat sits) [
  | inl was ↦ inl was
  | inr is ↦ inr (is.0, (c.in-Join.join, c.in-Join.ensures, sym is.1, is.2))
]

pub returns-in-Join-clause-member : goal.returns-in-Join-clause-member
returns-in-Join-clause-member c = λ join is sits.
    let P : Lane → Type 0 = λ lane. IsSome (seat_of c.args.self.now.members (record { address = c.args.from; lane = lane })) in
    c.join.ensures.member (subst P (joins_lane c.args.packet.now join c.in-Join.join is c.in-Join.ensures) sits)
