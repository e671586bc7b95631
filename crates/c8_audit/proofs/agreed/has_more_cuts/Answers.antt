-- Who is not in the game has no cut, so player 1's journal has each.
use Rattle.std.proofs.Common.{◌≡◌, inl, inr, Some, None, sym, ap, ◌∙◌, arith}
use Rattle.std.proofs.lemmas.Bool.{cases_lt}
use Rattle.c8_known.specs.Known.{PlayerValue}
use Rattle.c8_known.specs.checked.ConfirmedLaws.{nobody_past}
use Rattle.c8_audit.proofs.agreed.has_more_cuts.Goals as goal

pub returns : goal.returns
returns c = (
  λ yes. absurd cc,
  λ ahead. elim (cases_lt ahead.0 c.loop-number.number) [
    | inl less ↦ absurd (c.loop-number.invariant ahead.0 ahead.1 ahead.2 less ahead.3 ahead.4)
    | inr past ↦
        let none = nobody_past c.args.known.now ahead.0 (omega (arith, past, c.loop-number-test.false, c.players-number-end.ensures.value)) in
        let both : None ≡ Some ahead.1 = sym (ap (λ (v : PlayerValue). v.cut) none) ∙ ahead.3 in
        absurd cc
  ],
)
