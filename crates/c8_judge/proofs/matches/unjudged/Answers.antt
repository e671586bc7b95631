-- The refusal is that of the fault for which nothing is judged.
use Rattle.std.proofs.Common.{ap, ◌∙◌}
use Rattle.c8_audit.specs.Errors.{audit_part}
use Rattle.c8_judge.specs.Audited.{fault_of_unjudged}
use Rattle.c8_judge.proofs.MatchLemmas.{found_unjudged}
use Rattle.c8_judge.proofs.matches.unjudged.Goals as goal

pub returns-clause-found : goal.returns-clause-found
returns-clause-found c =
    found_unjudged c.refused_by.result c.refusal-refusal.result.part (fault_of_unjudged c.args.why.now)
    (c.refusal-refusal.ensures.part ∙ ap audit_part c.fault.ensures) c.requires c.refused_by.ensures.object c.refused_by.ensures.status
