-- A new batch gives nobody a seat, and may free only one that is silent.
use Rattle.std.proofs.Common.{List, ap, subst}
use Rattle.c8_relay.specs.Seating.{Expels}
use Rattle.c8_relay.specs.Standing.{Standing}
use Rattle.c8_relay.specs.declared.address.Sender.{Sender}
use Rattle.c8_relay.specs.declared.seats.Seated.{Seated}
use Rattle.c8_relay.proofs.relay.Relay.begin_batch.Goals as goal

pub returns-clause-seats : goal.returns-clause-seats
returns-clause-seats c =
    let P : List (Sender × Seated) → Type 0 = λ m. Expels c.args.now m c.expel.new.self in
    subst P (ap (λ (s : Standing). s.members) c.self.view_is) c.expel.ensures
