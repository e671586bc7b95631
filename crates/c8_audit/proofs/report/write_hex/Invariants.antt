-- The digits of the bytes so far were only added.
use Rattle.c8_texts.specs.Report.{Grows}
use Rattle.c8_audit.proofs.report.write_hex.Given as goal

-- some text was added so far
abbrev pub invariant-loop-byte : goal.invariant-loop-byte
invariant-loop-byte g l = Grows (g.W.Write.contents l.initial.out) (g.W.Write.contents l.out)
