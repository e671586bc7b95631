-- A holder that sits elsewhere, or nowhere, means that nobody sits in the place.
use Rattle.std.proofs.Common.{◌≡◌, Option, sym, subst, ap, arith, ◌∙◌}
use Rattle.c8_relay.specs.declared.address.Address.{Address}
use Rattle.c8_relay.specs.declared.seats.Seated.{Seated}
use Rattle.c8_relay.specs.Seating.{IsHolder}
use Rattle.c8_relay.proofs.IndexLemmas.{nobody_else, nothing, one_value}
use Rattle.c8_relay.proofs.seats.Seats.vacate.Goals as goal

pub returns-in_default-get-clause-free : goal.returns-in_default-get-clause-free
returns-in_default-get-clause-free c =
    let P : Option Address → Type 0 = λ r. IsHolder c.args.self.now c.args.place r in
    nobody_else _ _ _ (subst P c.in-Some.is c.holder.ensures) (λ seated at name seat. nothing seated (sym c.in_default-get.is ∙ c.get.ensures ∙ at))

pub returns-then-seated-place-clause-free : goal.returns-then-seated-place-clause-free
returns-then-seated-place-clause-free c =
    let P : Option Address → Type 0 = λ r. IsHolder c.args.self.now c.args.place r in
    nobody_else _ _ _ (subst P c.in-Some.is c.holder.ensures) (λ seated at name seat.
    let one : c.in-Some-get.seated ≡ seated = one_value _ _ (sym c.in-Some-get.is ∙ c.get.ensures ∙ at) in
    let e : c.in-Some-get.seated.name ≡ c.args.place.name = ap (λ (x : Seated). x.name) one ∙ name in
    let t = c.if-seated-place.true in
    grind (arith, e, t))

pub returns-then-seated-place-2-clause-free : goal.returns-then-seated-place-2-clause-free
returns-then-seated-place-2-clause-free c =
    let P : Option Address → Type 0 = λ r. IsHolder c.args.self.now c.args.place r in
    nobody_else _ _ _ (subst P c.in-Some.is c.holder.ensures) (λ seated at name seat.
    let one : c.in-Some-get.seated ≡ seated = one_value _ _ (sym c.in-Some-get.is ∙ c.get.ensures ∙ at) in
    let e : c.in-Some-get.seated.seat ≡ c.args.place.seat = ap (λ (x : Seated). x.seat) one ∙ seat in
    let t = c.if-seated-place-2.true in
    grind (arith, e, t))
