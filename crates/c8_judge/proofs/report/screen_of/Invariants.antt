-- The list has the rows above this one.
use Rattle.c8_screen.specs.Points.{points_of}
use Rattle.c8_judge.specs.PrintedJson.{HasListed}
use Rattle.c8_judge.specs.PrintedReport.{row_at}
use Rattle.c8_judge.proofs.report.screen_of.Given as goal

abbrev pub invariant-loop-y : goal.invariant-loop-y
invariant-loop-y l = HasListed (row_at (points_of l.screen)) l.y l.list.items
