-- The object and the status are those of the verdicts.
use Rattle.std.proofs.Common.{inl, ap, ◌∙◌, subst}
use Rattle.c8_audit.specs.Judged.{AreVerdicts}
use Rattle.c8_audit.specs.Read.{all_seen}
use Rattle.c8_judge.specs.PrintedJson.{status_of_fault}
use Rattle.c8_judge.proofs.matches.judged.Goals as goal

pub returns-clause-found : goal.returns-clause-found
returns-clause-found c =
    let judged = c.judge-verdicts.ensures in
    let found = c.args.evidence.now.gathered in
    inl (
      c.args.names.now,
      inl (record {
        rules = c.args.evidence.now.game;
        journals = found.journals;
        empty = found.empty;
        evidence = c.requires;
        verdicts = c.judge-verdicts.result;
        are = subst (λ journals. AreVerdicts c.args.evidence.now.game (all_seen journals) c.judge-verdicts.result) c.as_slice.ensures
            (record { entered = judged.entered; checks = judged.checks; agree = judged.agree; count = judged.count });
        object = c.in_ok-object.ensures.object;
        status_is = c.status_of-status.ensures ∙ ap status_of_fault c.fault_of.ensures;
      }),
    )
