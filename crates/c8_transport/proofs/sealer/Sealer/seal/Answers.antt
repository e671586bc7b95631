-- A datagram that is short enough and has a key gets the next counter, which is then used up.
use Rattle.std.proofs.Common.{refl, subst, arith}
use Rattle.c8_transport.specs.declared.error.Unsealable.TheVariants.{Spent}
use Rattle.c8_transport.specs.Sealer.{SealerValue, HasSealed, IsUnsealed}
use Rattle.c8_transport.specs.contracts.sealer.Sealer.{the_view}
use Rattle.c8_transport.proofs.SealerLemmas.{has_used}
use Rattle.c8_transport.proofs.sealer.Sealer.seal.Goals as goal

pub returns-clause-sealed : goal.returns-clause-sealed
returns-clause-sealed c =
    let few = c.if-datagram-gt-LONGEST_OPEN.false in
    let some = c.if-self-eq0.false in
    let within = c.self.invariant.within in
    subst (λ (old : SealerValue). HasSealed old c.args.datagram.now c.seal-size.new.out c.seal-size.result
    (record {
      seal = c.self.inside.seal;
      next = c.rest-self-inside.result.next;
      left = c.rest-self-inside.result.left;
      taken = c.self.inside.taken.items;
    }))
    c.self.view_is
    (record {
      key = c.in-Some.key.now;
      has = c.in-Some.ensures;
      few = omega (arith, few);
      some = omega (arith, some);
      within = omega (arith, within);
      packet = c.seal-size.ensures.sealed;
      size_is = c.seal-size.ensures.size;
      used = has_used (the_view c.self.inside) c.rest-self-inside.result.next c.rest-self-inside.result.left c.rest-self-inside.ensures.next
          c.rest-self-inside.ensures.left;
    })

pub returns-then-self-eq0-clause-refused : goal.returns-then-self-eq0-clause-refused
returns-then-self-eq0-clause-refused c =
    let few = c.if-datagram-gt-LONGEST_OPEN.false in
    let none = c.if-self-eq0.true in
    let is = subst (λ (old : SealerValue). IsUnsealed old c.args.datagram.now Spent) c.self.view_is
    (omega (arith, few), (c.in-Some.key.now, c.in-Some.ensures), omega (arith, none)) in
    (is, refl, refl)
