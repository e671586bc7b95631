-- Who sits there is only heard anew, one who listens there keeps the place, and else the address enters.
use Rattle.std.proofs.Common.{inl}
use Rattle.c8_relay.proofs.SittingLemmas.{keeps, only_same}
use Rattle.c8_relay.proofs.seats.Seats.sit.Goals as goal

pub returns-then-renew-clause-only : goal.returns-then-renew-clause-only
returns-then-renew-clause-only c = λ other seat sits. inl ((c.if-renew.ensures.1 other seat).0 sits)

pub returns-in-None-clause-others : goal.returns-in-None-clause-others
returns-in-None-clause-others c = keeps c.args.now c.args.address c.args.place c.args.self.now c.renew.new.self c.enter.new.self
    c.if-renew.ensures.0 c.in-None.ensures.found c.enter.ensures.others

pub returns-in-None-clause-only : goal.returns-in-None-clause-only
returns-in-None-clause-only c = only_same c.args.now c.args.address c.args.place c.args.self.now c.renew.new.self c.enter.new.self
    c.if-renew.ensures.0 c.enter.ensures.only
