-- The second reading begins with the first exactly if no body of the first is missing or different there.
use Rattle.std.proofs.Common.{ℕ, List, refl, sym, arith, ◌∙◌}
use Rattle.c8_known.specs.checked.BeginsLaws.{begins_get}
use Rattle.c8_log.specs.Slots.{kept}
use Rattle.c8_audit.proofs.ReadingLemmas.{begins_by_items, some_same}
use Rattle.c8_audit.proofs.reading.goes_on.Goals as goal

pub returns-then-not-is_same : goal.returns-then-not-is_same
returns-then-not-is_same c =
    let n = c.loop-n.n in (
      λ never. absurd cc,
      λ begins.
          let at = begins_get (kept c.args.first.now) (kept c.args.later.now) n c.kept_body.result.now begins c.kept_body.ensures in
          c.if-not-is_same.ensures.1 (some_same c.kept_body.result.now c.kept_body-in-loop-n.result.now (sym at ∙ c.kept_body-in-loop-n.ensures)),
    )

pub returns : goal.returns
returns c = (
  λ e. begins_by_items (List ℕ) (kept c.args.first.now) (kept c.args.later.now) (omega arith)
      (λ k below. c.loop-n.invariant k (omega (arith, below, c.loop-n-test.false, c.kept_len-count.ensures))),
  λ begins. refl,
)
