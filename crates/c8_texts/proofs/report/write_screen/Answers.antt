-- Row after row of the screen is added, from the top, until all 32 are written.
use Rattle.c8_screen.specs.Points.{points_of}
use Rattle.c8_texts.proofs.ReportLemmas.{rows_more, rows_all}
use Rattle.c8_texts.proofs.report.write_screen.Goals as goal

pub loop-y-preserved : goal.loop-y-preserved
loop-y-preserved g c =
    rows_more (g.W.Write.contents c.args.out.now) (g.W.Write.contents c.loop-y.out) (g.W.Write.contents c.write_all.new.self)
    (points_of c.args.screen.now) c.loop-y.y c.row_text.result c.loop-y.invariant c.row_text.ensures
    c.in_ok-write_all.ensures.bytes

pub returns : goal.returns
returns g c = rows_all (g.W.Write.contents c.args.out.now) (g.W.Write.contents c.loop-y.out) (points_of c.args.screen.now) c.loop-y.y
    c.loop-y.auto.y-end c.loop-y-test.false c.loop-y.invariant
