-- The summary has the bodies before body n.
use Rattle.c8_log.specs.Slots.{kept}
use Rattle.c8_judge.specs.Counted.{IsSummedTo}
use Rattle.c8_judge.proofs.summary.summary_of.Given as goal

abbrev pub invariant-loop-n : goal.invariant-loop-n
invariant-loop-n l = IsSummedTo (kept l.image) l.n l.summary
