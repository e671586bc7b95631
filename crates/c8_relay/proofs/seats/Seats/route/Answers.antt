-- A datagram goes to who listens in its sender's own room if the budget lasts, and else is lost for one cause.
use Rattle.std.proofs.Common.{◌≡◌, ◌≤◌, ◌<◌, ◌+◌, ◌∷◌, ◌⊎◌, [], max, None, Some, inl, inr, refl, sym, subst, rules, ◌∙◌}
use Rattle.c8_relay.specs.declared.address.Address.{Address}
use Rattle.c8_relay.specs.Budget.{Pass}
use Rattle.c8_relay.specs.declared.seats.Seated.{Seated}
use Rattle.c8_relay.specs.declared.sitting.Cause.{Cause}
use Rattle.c8_relay.specs.declared.sitting.Cause.TheVariants.{Nobody, TooFast}
use Rattle.c8_relay.specs.Seating.{IsLost, Listens, target}
use Rattle.c8_relay.proofs.IndexLemmas.{nothing, one_value}
use Rattle.c8_relay.proofs.SittingLemmas.{if_err, if_ok, of_err, of_ok, of_some}
use Rattle.c8_relay.proofs.seats.Seats.route.Goals as goal

pub returns-clause-shared : goal.returns-clause-shared
returns-clause-shared c = if_ok _ _ (λ to is.
    let P : Address → Type 0 = λ x. (c.listener-listener.result ≡ Some x)
    × (c.charge-result.new.self.full_at ≡ max c.in-Some.mine.bucket.full_at c.args.now + 1_000)
    × Pass c.in-Some.mine.bucket.full_at (c.args.now ∷ []) in
    let Q : Address → Type 0 = λ x. Listens c.args.now c.args.self.now x (target c.args.route c.in-Some.mine.name) in
    let paid : P to = of_ok P _ to c.charge-result.ensures.paid is in
    let listens : Q to = of_some Q _ to c.listener-listener.ensures.listens paid.0 in
    (c.in-Some.mine.name, (c.in-Some.mine, sym c.get.ensures ∙ c.in-Some.is, refl, search rules), (listens.0, listens.1, listens.2, listens.3)))

pub returns-clause-served : goal.returns-clause-served
returns-clause-served c = λ to served.
    let same : served.0 ≡ c.in-Some.mine = one_value _ _ (sym served.1 ∙ sym c.get.ensures ∙ c.in-Some.is) in
    let P : Seated → Type 0 = λ m. Listens c.args.now c.args.self.now to (target c.args.route m.name) in
    let Q : Seated → Type 0 = λ m. m.bucket.full_at + 1_000 ≤ c.args.now + 128_000 in
    c.charge-result.ensures.carried to (c.listener-listener.ensures.found to (subst P same served.4)) (subst Q same served.3)

pub returns-clause-lost : goal.returns-clause-lost
returns-clause-lost c = if_err _ _ (λ cause is.
    let P : Cause → Type 0 = λ it. ((c.listener-listener.result ≡ None) × (it ≡ Nobody))
    ⊎ ((it ≡ TooFast) × (c.args.now + 128_000 < c.in-Some.mine.bucket.full_at + 1_000)) in
    let Q : Cause → Type 0 = IsLost c.args.now c.args.self.now c.args.from c.args.route in
    let sits : c.in-Some.mine.seat ≡ c.args.route.from = search rules in
    elim (of_err P _ cause c.charge-result.ensures.lost is) [
      | inl none ↦ subst Q (sym none.1) (
        c.in-Some.mine.name,
        (c.in-Some.mine, sym c.get.ensures ∙ c.in-Some.is, refl, sits),
        λ to listens. nothing to (sym none.0 ∙ c.listener-listener.ensures.found to listens),
      )
      | inr fast ↦ subst Q (sym fast.0) (c.in-Some.mine, sym c.get.ensures ∙ c.in-Some.is, sits, fast.1)
    ])
