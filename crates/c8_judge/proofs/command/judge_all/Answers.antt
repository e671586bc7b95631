-- The first no decides the status, and the verdicts are what is printed.
use Rattle.std.proofs.Common.{Result, sym, ap, ◌∙◌, refl, Ok}
use Rattle.c8_command.specs.declared.status.Status.{Status}
use Rattle.std.proofs.lemmas.Result.{IfOk-weaker}
use Rattle.c8_audit.specs.Read.{all_seen}
use Rattle.c8_command.specs.declared.status.Status.TheVariants.{Done}
use Rattle.c8_judge.specs.PrintedJson.{status_of_fault}
use Rattle.c8_judge.proofs.OutcomeLemmas.{told_no, told_judged, tells_verdicts}
use Rattle.c8_judge.proofs.command.judge_all.Goals as goal

pub returns-in-Some-clause-audited : goal.returns-in-Some-clause-audited
returns-in-Some-clause-audited g c =
    let told = c.in_ok-fault.ensures in
    let rules = c.args.evidence.now.game in
    let journals = c.args.evidence.now.gathered.journals in
    told_judged c.a_yes_of_files_means_agreement.ensures rules c.requires.files journals c.requires.gathered c.requires.one_match
    c.requires.text c.tell_at.result c.requires.spells
    (told_no rules (all_seen journals) c.tell_at.result c.in-Some.fault told.0 told.1 (sym c.in-Some.is ∙ told.2) c.tell_at.ensures)

pub returns-in-None-clause-audited : goal.returns-in-None-clause-audited
returns-in-None-clause-audited g c =
    let told = c.in_ok-fault.ensures in
    let done : Result Status (Unit {0}) = Ok Done in
    told_judged c.a_yes_of_files_means_agreement.ensures c.args.evidence.now.game c.requires.files c.args.evidence.now.gathered.journals
    c.requires.gathered c.requires.one_match c.requires.text done c.requires.spells
    (Ok told.0, (told.1, sym told.2 ∙ c.in-None.is), refl)

pub returns-in-Some-clause-printed : goal.returns-in-Some-clause-printed
returns-in-Some-clause-printed g c =
    let told = c.in_ok-fault.ensures in
    IfOk-weaker c.tell_at.result _ _ (λ status same.
    tells_verdicts c.args.files.now (g.W.Write.contents c.args.out.now) (g.W.Write.contents c.write_as.new.out) c.args.asked.json
    c.args.evidence.now.game c.args.evidence.now.gathered.journals c.args.evidence.now.gathered.empty told.0 status c.requires told.1
    (same ∙ ap status_of_fault (sym c.in-Some.is ∙ told.2)) told.3) c.tell_at.ensures

pub returns-in-None-clause-printed : goal.returns-in-None-clause-printed
returns-in-None-clause-printed g c =
    let told = c.in_ok-fault.ensures in
    tells_verdicts c.args.files.now (g.W.Write.contents c.args.out.now) (g.W.Write.contents c.write_as.new.out) c.args.asked.json
    c.args.evidence.now.game c.args.evidence.now.gathered.journals c.args.evidence.now.gathered.empty told.0 Done c.requires told.1
    (ap status_of_fault (sym c.in-None.is ∙ told.2)) told.3
