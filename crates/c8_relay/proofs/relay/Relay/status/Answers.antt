-- Only an address that has shown that it receives sits down, and only in the place that it asks for.
use Rattle.std.proofs.Common.{ap, rules}
use Rattle.c8_relay.specs.Cookies.{HasShown}
use Rattle.c8_relay.specs.Standing.{Standing, slot_of}
use Rattle.c8_relay.proofs.StandingLemmas.{may_only}
use Rattle.c8_relay.proofs.relay.Relay.status.Goals as goal

pub returns-clause-seats : goal.returns-clause-seats
returns-clause-seats c =
    let shown : HasShown c.args.self.now.key (slot_of c.args.now) c.args.from c.args.join.cookie = search rules in
    may_only _ c.args.from c.args.join.place _ _ _ (ap (λ (s : Standing). s.members) c.self.view_is) shown c.sit.ensures.only
