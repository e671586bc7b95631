-- To count the frame for one key changes that key and no other.
use Rattle.std.proofs.Common.{◌≡◌, ◌≢◌, ◌<◌, ℕ, Bool, false, cond, List, length, slice_set, arith, rules, ap, ◌∙◌, inl, inr}
use Rattle.std.specs.Prelude.{◌==◌}
use Rattle.std.proofs.lemmas.Bool.{cases_lt, eq-eqb}
use Rattle.std.proofs.lemmas.Bool.Decides.{nat_tests}
use Rattle.c8_terminal.specs.declared.press.Press.{Press}
use Rattle.c8_terminal.specs.Strokes.{after_frame}
use Rattle.c8_terminal.proofs.HeldLemmas.{changed, known}
use Rattle.c8_terminal.proofs.held.Held.count_frame.Goals as goal

pub loop-key-preserved : goal.loop-key-preserved
loop-key-preserved c =
    let ps : List Press = c.loop-key.self.presses in
    let i : ℕ = c.loop-key.key in
    let within : i < length ps = omega arith in
    let by : (k : ℕ) → known (slice_set ps i c.after_frame.result) k ≡ cond (i == k) (after_frame (known ps k)) (known ps k) =
    changed ps i c.after_frame.result after_frame within c.after_frame.ensures in
    let apart : (k : ℕ) → k ≢ i → known (slice_set ps i c.after_frame.result) k ≡ known ps k =
    λ k differs. let no : (i == k) ≡ false = grind (arith, nat_tests, differs) in
    by k ∙ ap (λ (b : Bool). cond b (after_frame (known ps k)) (known ps k)) no in
    record {
      hold = search rules;
      size = search rules;
      before =
          λ k below.
          elim (cases_lt k i) [
            | inl before ↦ apart k (omega (arith, before)) ∙ c.loop-key.invariant.before k before
            | inr here ↦
                let same : i ≡ k = omega (arith, here, below) in
                by k ∙ ap (λ (b : Bool). cond b (after_frame (known ps k)) (known ps k)) (eq-eqb i k same)
                ∙ ap after_frame (c.loop-key.invariant.after k (omega (arith, here)))
          ];
      after = λ k above. apart k (omega (arith, above)) ∙ c.loop-key.invariant.after k (omega (arith, above));
    }
