-- What the marks say decides whether the counter is new, and if it is they say so of the list with it.
use Rattle.std.proofs.Common.{ap, ◌∙◌, ◌++◌, ◌∷◌, [], List, ℕ, subst}
use Rattle.c8_transport.specs.Counters.{IsNew}
use Rattle.c8_transport.proofs.seen.Seen.take.Goals as goal

pub returns-in_default : goal.returns-in_default
returns-in_default c = (
  subst (λ (taken : List ℕ). IsNew taken c.args.counter → ⊥) c.self.view_is
      (c.in_default.ensures.room c.self.inside.taken.items c.self.invariant),
  c.self.view_is,
)

pub returns : goal.returns
returns c = (
  subst (λ (taken : List ℕ). IsNew taken c.args.counter) c.self.view_is (c.in-Some.ensures.room c.self.inside.taken.items c.self.invariant).0,
  c.and-self-inside.ensures ∙ ap (λ (taken : List ℕ). taken ++ c.args.counter ∷ []) c.self.view_is,
)
