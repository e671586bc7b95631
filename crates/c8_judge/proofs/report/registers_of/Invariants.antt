-- The list has the registers before this one.
use Rattle.c8_judge.specs.PrintedJson.{HasListed}
use Rattle.c8_judge.specs.PrintedReport.{number_at}
use Rattle.c8_judge.proofs.report.registers_of.Given as goal

abbrev pub invariant-loop-place : goal.invariant-loop-place
invariant-loop-place l = HasListed (number_at l.values) l.place l.list.items
