-- Lines about journals and drops come before those of the verdicts, the result only after three yes, and the sentence last.
use Rattle.c8_audit.specs.Printed.{Tells}
use Rattle.c8_audit.proofs.PrintLemmas.{tells_by, judged_by}
use Rattle.c8_audit.proofs.report.write_audit.Goals as goal

pub returns : goal.returns
returns g c =
    let judged = c.judge-verdicts.ensures in
    judged_by (Tells (g.W.Write.contents c.args.out.now) (g.W.Write.contents c.write_sentence.new.out))
    c.args.game.now c.args.gathered.now.journals c.as_slice-journals.result.now c.judge-verdicts.result c.fault_of-fault.result
    c.as_slice-journals.ensures
    (record { entered = judged.entered; checks = judged.checks; agree = judged.agree; count = judged.count }) c.fault_of-fault.ensures
    (tells_by (g.W.Write.contents c.args.out.now) (g.W.Write.contents c.write_players.new.out) (g.W.Write.contents c.write_empty.new.out)
    (g.W.Write.contents c.write_dropped.new.out) (g.W.Write.contents c.write_verdicts.new.out) (g.W.Write.contents c.write_end.new.out)
    (g.W.Write.contents c.write_sentence.new.out)
    c.judge-verdicts.result c.in_ok-write_players.ensures c.in_ok-write_empty.ensures c.in_ok-write_dropped.ensures
    c.in_ok-write_verdicts.ensures c.in_ok-write_end.ensures c.in_ok-write_sentence.ensures)
