-- The text of the screen's rows above this one was added.
use Rattle.std.specs.List.{flat_map, range_with_len}
use Rattle.std.specs.Io.KnownBytes.{Appends}
use Rattle.c8_screen.specs.Points.{points_of}
use Rattle.c8_texts.specs.Report.{row_text}
use Rattle.c8_texts.proofs.report.write_screen.Given as goal

-- the rows so far were added
abbrev pub invariant-loop-y : goal.invariant-loop-y
invariant-loop-y g l = Appends (g.W.Write.contents l.initial.out) (g.W.Write.contents l.out)
    (flat_map (row_text (points_of l.screen)) (range_with_len 0 l.y))
