-- A folder without a match is refused.
use Rattle.c8_judge.proofs.MatchLemmas.{found_no_match}
use Rattle.c8_judge.proofs.matches.no_match.Goals as goal

pub returns-clause-found : goal.returns-clause-found
returns-clause-found c =
    found_no_match c.refused_by.result c.args.refusal.part c.refused_by.ensures.object c.refused_by.ensures.status
