-- Sixty-four marks, one for each column, and the line feed behind them are the text of the row.
use Rattle.std.proofs.Common.{arith}
use Rattle.c8_screen.specs.Points.{points_of}
use Rattle.c8_texts.proofs.ReportLemmas.{row_is}
use Rattle.c8_texts.proofs.report.row_text.Goals as goal

pub returns : goal.returns
returns c =
    row_is (points_of c.args.screen.now) c.args.y c.loop-x.text c.loop-x.invariant.length
    (λ x below. c.loop-x.invariant.marked x (let end = c.loop-x-test.false in omega (arith, below, end))) c.loop-x.invariant.end
