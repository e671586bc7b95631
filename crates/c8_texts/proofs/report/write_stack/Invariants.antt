-- Up to this place of the stack text was only added.
use Rattle.c8_texts.specs.Report.{Grows}
use Rattle.c8_texts.proofs.report.write_stack.Given as goal

-- some text was added so far
abbrev pub invariant-loop-place : goal.invariant-loop-place
invariant-loop-place g l = Grows (g.W.Write.contents l.initial.out) (g.W.Write.contents l.out)
