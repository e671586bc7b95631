-- Up to this register text was only added.
use Rattle.c8_texts.specs.Report.{Grows}
use Rattle.c8_texts.proofs.report.write_registers.Given as goal

-- some text was added so far
abbrev pub invariant-loop-value : goal.invariant-loop-value
invariant-loop-value g l = Grows (g.W.Write.contents l.initial.out) (g.W.Write.contents l.out)
