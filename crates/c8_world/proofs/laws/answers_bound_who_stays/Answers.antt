-- A player that answered has frozen the leaver, so it holds no more of it before the cut; and a cut needs all answers.
use Rattle.c8_world.proofs.Reached.{reports_bound, stayers_froze}
use Rattle.c8_world.proofs.laws.answers_bound_who_stays.Goals as goal

pub returns-clause-reports : goal.returns-clause-reports
returns-clause-reports c = reports_bound c.peers_are_lawful.ensures

pub returns-clause-frozen : goal.returns-clause-frozen
returns-clause-frozen c = stayers_froze c.peers_are_lawful.ensures
