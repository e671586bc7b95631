-- Behind a sealer the packet is the sealed datagram, and a sealer that refuses stays as it was.
use Rattle.std.proofs.Common.{◌∙◌, Some, Option, subst, sym, ap, refl}
use Rattle.c8_transport.specs.Sealer.{SealerValue}
use Rattle.c8_embed.specs.Endpoint.{IsWrapped, IsUnsealable}
use Rattle.c8_embed.proofs.endpoint.wrap.Goals as goal

pub returns-in-Ok-clause-wrapped : goal.returns-in-Ok-clause-wrapped
returns-in-Ok-clause-wrapped c =
    subst (λ (before : Option SealerValue). IsWrapped before c.args.datagram.now c.in-Ok.size c.seal.new.out (Some c.seal.new.self))
    (sym c.in-Some.is) (c.seal.new.self, c.in-Ok.ensures.sealed, refl)

pub returns-in-Err-clause-wrapped : goal.returns-in-Err-clause-wrapped
returns-in-Err-clause-wrapped c = (
  ap (λ (s : SealerValue). Some s) c.in-Err.ensures.refused.1 ∙ sym c.in-Some.is,
  subst (λ (before : Option SealerValue). IsUnsealable before c.args.datagram.now) (sym c.in-Some.is) (c.in-Err._why, c.in-Err.ensures.refused.0),
)
