-- While a head is not whole the connection reads more, or is refused once it has no room.
use Rattle.std.proofs.Common.{◌≡◌, ◌∙◌, ℕ, List, nat_le, sym, subst, true, false}
use Rattle.c8_relay_web.specs.Requests.{IsAsked}
use Rattle.c8_relay_web.specs.declared.inbox.TheConstants.{INPUT}
use Rattle.c8_relay_web.specs.declared.request.Asked.TheVariants.{Unknown}
use Rattle.c8_relay_web.proofs.connection.Connection.head.Goals as goal

pub returns-in-Unknown-clause-follows : goal.returns-in-Unknown-clause-follows
returns-in-Unknown-clause-follows c =
    let full : nat_le INPUT c.args.self.now.inbox.filled ≡ true = sym c.is_full.ensures ∙ c.if-is_full.true in (
      Unknown,
      subst (λ (input : List ℕ). IsAsked input c.args.shared.now.site Unknown) c.bytes.ensures c.in-Unknown.ensures,
      rw full c.refuse.ensures.refused,
    )

pub returns-in-Unknown-2-clause-follows : goal.returns-in-Unknown-2-clause-follows
returns-in-Unknown-2-clause-follows c =
    let room : nat_le INPUT c.args.self.now.inbox.filled ≡ false = sym c.is_full.ensures ∙ c.if-is_full.false in
    let fill = c.fill.ensures in (
      Unknown,
      subst (λ (input : List ℕ). IsAsked input c.args.shared.now.site Unknown) c.bytes.ensures c.in-Unknown-2.ensures,
      rw room (fill.stage ∙ c.requires, fill.waiting, fill.more),
    )
