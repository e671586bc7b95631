-- One more confirmed frame keeps the run, and at a multiple of 32 the base has the machine of the next mark.
use Rattle.std.proofs.Common.{ℕ, List, [], ◌∷◌, ◌++◌, ◌+◌, ◌≡◌, sym, ap, ◌∙◌, arith}
use Rattle.c8_machine.specs.State.{state}
use Rattle.c8_digest.specs.declared.marks.FrameMark.{FrameMark}
use Rattle.c8_digest.specs.StateBytes.{mark_of}
use Rattle.c8_digest.specs.Marks.{kept}
use Rattle.c8_digest.specs.Origin.{Origin, run_since}
use Rattle.c8_known.specs.Confirmed.{rows_below, best_row}
use Rattle.c8_roll.specs.Roll.{marks_since}
use Rattle.c8_roll.specs.checked.Timeline.{IsRunOf, state_at}
use Rattle.c8_roll.proofs.RollLemmas.{no_mark, next_mark}
use Rattle.c8_roll.proofs.TimelineLemmas.{base_is}
use Rattle.c8_roll.proofs.timeline.Timeline.confirm_all.Goals as goal
use Rattle.c8_roll.proofs.timeline.Timeline.confirm_all.Goals.{then-frame-eq0, else-frame-eq0}

pub loop-frame-preserved : goal.loop-frame-preserved
loop-frame-preserved c =
    let k = c.args.known.now in
    let rules = c.args.self.now.rules in
    let frame = c.loop-frame.frame in
    let inv = c.loop-frame.invariant in
    let best = c.best.ensures.value ∙ ap (best_row k) (sym inv.first) in
    let run : (from : Origin) → IsRunOf from k c.args.self.now → IsRunOf from k c.confirm.new.self =
    λ from run. c.confirm.ensures.run from k (inv.run from run) best in
    let counted = inv.counted in
    let more = c.confirm.ensures.counted in
    let later = inv.later in
    let later_now = c.confirm.ensures.later in
    let first_now = c.confirm.ensures.first in
    let first = inv.first in
    record {
      all = c.confirm.ensures.all;
      rules = c.confirm.ensures.rules ∙ inv.rules;
      first = c.confirm.ensures.first ∙ ap (λ (n : ℕ). n + 1) inv.first;
      later = omega (arith, later, later_now);
      within = λ n ticks to. c.confirm.ensures.within n (inv.within n ticks to)
          (omega (arith, to, first_now, first, c.loop-frame-test.true, c.confirmed-frame-end.ensures.value));
      counted = omega (arith, counted, more);
      run = run;
      marks = λ from ran sure marked.
          let starts = (inv.run from ran).starts in
          let before = inv.marks from ran (omega (arith, sure)) marked in
          let base : state_at c.confirm.new.self 0 ≡ run_since rules from (rows_below k (frame + 1)) =
          base_is rules from k c.confirm.new.self (frame + 1) (run from ran) (c.confirm.ensures.rules ∙ inv.rules)
          (c.confirm.ensures.first ∙ ap (λ (n : ℕ). n + 1) inv.first) sure in
          elim c.if-frame-eq0.branch [
            | then-frame-eq0 w ↦
                w.marks-is ∙ w.put_of.ensures ∙ ap (λ (marks : List FrameMark). kept
                (marks ++ record { frame = frame + 1; mark = mark_of (state w.base.result.now) } ∷ [])) before
                ∙ ap (λ (mark : List ℕ). kept (marks_since rules from k frame ++ record { frame = frame + 1; mark = mark } ∷ []))
                (ap mark_of (w.base.ensures ∙ base))
                ∙ sym (next_mark c.marks_are_the_last_sixteen.ensures.last rules from k frame (omega (arith, starts, first)) w.if-frame-eq0.true)
            | else-frame-eq0 w ↦ w.marks-is ∙ before ∙ sym (no_mark rules from k frame w.if-frame-eq0.false)
          ];
    }
