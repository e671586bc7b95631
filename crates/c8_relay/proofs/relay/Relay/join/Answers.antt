-- A JOIN seats nobody but its sender, once that has shown that it receives; to admit the JOIN moves nobody.
use Rattle.std.proofs.Common.{subst}
use Rattle.c8_relay.specs.Standing.{Standing, SeatsWhoMay}
use Rattle.c8_relay.proofs.relay.Relay.join.Goals as goal

pub returns-clause-seats : goal.returns-clause-seats
returns-clause-seats c =
    let P : Standing → Type 0 = λ s. SeatsWhoMay c.args.now c.args.from c.args.join s c.status-status.new.self in
    subst P c.admits.ensures.stays c.status-status.ensures.seats
