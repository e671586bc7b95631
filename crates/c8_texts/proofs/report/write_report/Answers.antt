-- The number of frames comes first, then the lines of the machine's parts, and its screen comes last.
use Rattle.c8_screen.specs.Points.{points_of}
use Rattle.c8_texts.proofs.ReportLemmas.{reports}
use Rattle.c8_texts.proofs.report.write_report.Goals as goal

pub returns : goal.returns
returns g c =
    reports (g.W.Write.contents c.args.out.now) (g.W.Write.contents c.writeln.new.self) (g.W.Write.contents c.write_parts.new.out)
    (g.W.Write.contents c.write_screen.new.out) (points_of c.screen.result.now) c.args.played.now
    c.write_screen.result c.screen.ensures c.in_ok-writeln.ensures.bytes c.in_ok-write_parts.ensures c.write_screen.ensures
