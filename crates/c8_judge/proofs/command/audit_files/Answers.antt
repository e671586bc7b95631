-- What cannot be judged is never done, and its refusal is what is printed.
use Rattle.std.proofs.lemmas.Result.{IfOk-weaker}
use Rattle.c8_judge.specs.Audited.{fault_of_unjudged}
use Rattle.c8_judge.proofs.OutcomeLemmas.{told_unjudged, tells_refusal}
use Rattle.c8_judge.proofs.command.audit_files.Goals as goal

pub returns-in_ok-tell_refusal-in-Err-clause-audited : goal.returns-in_ok-tell_refusal-in-Err-clause-audited
returns-in_ok-tell_refusal-in-Err-clause-audited g c =
    told_unjudged c.refuse.result (fault_of_unjudged c.in-Err.why) c.in-Err.ensures.unjudged c.refuse.ensures

pub returns-in_ok-tell_refusal-in-Err-clause-printed : goal.returns-in_ok-tell_refusal-in-Err-clause-printed
returns-in_ok-tell_refusal-in-Err-clause-printed g c = IfOk-weaker c.refuse.result _ _ (λ status same.
    tells_refusal c.args.files.now (g.W.Write.contents c.args.out.now) (g.W.Write.contents c.tell_refusal.new.out) c.args.asked.json
    (fault_of_unjudged c.in-Err.why) status c.in-Err.ensures.unjudged same c.in_ok-tell_refusal-in-Err.ensures) c.refuse.ensures
