-- A row is a number with a bit for each point, so two rows have the same points exactly if the numbers are equal.
use Rattle.std.proofs.Common.{◌<◌, ◌^◌, arith}
use Rattle.c8_screen.specs.Points.{points_of}
use Rattle.c8_terminal.proofs.RowLemmas.{compared}
use Rattle.c8_terminal.proofs.painter.same_row.Goals as goal

pub returns : goal.returns
returns c =
    let a_in : c.row-a.result.now < 2 ^ 64 = omega arith in
    let b_in : c.row-b.result.now < 2 ^ 64 = omega arith in
    compared (points_of c.args.a.now) (points_of c.args.b.now) c.args.y c.row-a.result.now c.row-b.result.now a_in b_in c.row-a.ensures
    c.row-b.ensures
