-- A datagram moves nobody: it goes to who listens in the place that it names and is paid for, or it has a cause.
use Rattle.std.proofs.Common.{◌≡◌, Ok, List, sym, ap, subst, ◌∙◌}
use Rattle.c8_relay.specs.declared.address.Sender.{Sender}
use Rattle.c8_relay.specs.declared.relay.Fate.TheVariants.{Forward}
use Rattle.c8_relay.specs.declared.seats.Seated.{Seated}
use Rattle.c8_relay.specs.declared.address.Address.{Address}
use Rattle.c8_relay.specs.declared.relay.Fate.{Fate}
use Rattle.c8_relay.specs.declared.sitting.Cause.{Cause}
use Rattle.c8_relay.specs.Seating.{SeatsNobody, Shares, IsPaid, IsLost, IsServed}
use Rattle.c8_relay.specs.Standing.{Standing, IsRouted}
use Rattle.c8_relay.proofs.SittingLemmas.{of_err, of_ok}
use Rattle.c8_relay.proofs.StandingLemmas.{one_ok, no_ok}
use Rattle.c8_relay.proofs.relay.Relay.forward.Goals as goal
use Rattle.c8_relay.proofs.relay.Relay.forward.Goals.{in-Ok, in-Err}

pub returns-clause-places : goal.returns-clause-places
returns-clause-places c =
    let P : List (Sender × Seated) → Type 0 = λ m. SeatsNobody m c.route.new.self in
    subst P (ap (λ (s : Standing). s.members) c.self.view_is) c.route.ensures.places

pub returns-clause-served : goal.returns-clause-served
returns-clause-served c = λ to served.
    let P : List (Sender × Seated) → Type 0 = λ m. IsServed c.args.now m c.args.from c.args.route to in
    let is : c.route.result ≡ Ok to = c.route.ensures.served to (subst P (sym (ap (λ (s : Standing). s.members) c.self.view_is)) served) in
    elim c.match-route.branch [
      | in-Ok w ↦ w.result-is ∙ ap Forward (one_ok _ _ _ w.in-Ok.is is)
      | in-Err w ↦ absurd (no_ok _ _ _ w.in-Err.is is)
    ]

pub returns-clause-fair : goal.returns-clause-fair
returns-clause-fair c =
    let New : Standing = record { key = c.self.inside.key; members = c.route.new.self } in
    let Q : Fate → Type 0 = λ fate. IsRouted c.args.now c.args.from c.args.route c.args.self.now New fate in
    let same : c.self.inside.seats ≡ c.args.self.now.members = ap (λ (s : Standing). s.members) c.self.view_is in
    let Sent : List (Sender × Seated) → Address → Type 0 = λ m to. Shares m c.args.from c.args.route to in
    let Paid : List (Sender × Seated) → Type 0 =
    λ m. IsPaid c.args.now m c.route.new.self (record { address = c.args.from; lane = c.args.route.lane }) in
    let Lost : List (Sender × Seated) → Cause → Type 0 = λ m cause. IsLost c.args.now m c.args.from c.args.route cause in
    elim c.match-route.branch [
      | in-Ok w ↦ subst Q (sym w.result-is) (
        subst (λ m. Sent m w.in-Ok.to) same (of_ok (Sent c.self.inside.seats) _ w.in-Ok.to c.route.ensures.shared w.in-Ok.is),
        subst Paid same (of_ok (λ (_ : Address). Paid c.self.inside.seats) _ w.in-Ok.to c.route.ensures.paid w.in-Ok.is),
      )
      | in-Err w ↦ subst Q (sym w.result-is) (subst (λ m. Lost m w.in-Err.cause) same
          (of_err (Lost c.self.inside.seats) _ w.in-Err.cause c.route.ensures.lost w.in-Err.is))
    ]
