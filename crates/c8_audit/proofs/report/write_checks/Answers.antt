-- If all checkpoints are true the line is yes, whatever record a no would name.
use Rattle.c8_audit.proofs.PrintLemmas.{true_checks}
use Rattle.c8_audit.proofs.report.write_checks.Goals as goal

pub returns-in-None : goal.returns-in-None
returns-in-None g c =
    true_checks (g.W.Write.contents c.args.out.now) (g.W.Write.contents c.writeln-in-None.new.self) c.args.untrue c.writeln-in-None.result
    c.in-None.is c.writeln-in-None.ensures.bytes
