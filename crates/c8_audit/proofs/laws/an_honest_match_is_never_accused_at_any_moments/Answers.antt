-- Each reading begins the journal of one world, and that world's journals fit one another.
use Rattle.c8_audit.proofs.MomentLemmas.{beginnings, never_accused, never_opposed_at, checks_true, journals_read}
use Rattle.c8_audit.proofs.laws.an_honest_match_is_never_accused_at_any_moments.Goals as goal

pub returns-clause-entered : goal.returns-clause-entered
returns-clause-entered c = λ rules room e range few honest.
    never_accused c.peers_are_lawful.ensures rules room e range few (beginnings rules room e honest)

pub returns-clause-checks : goal.returns-clause-checks
returns-clause-checks c = λ rules room e range few honest. checks_true c.worlds_are_lawful.ensures rules room e range few honest

pub returns-clause-agree : goal.returns-clause-agree
returns-clause-agree c = never_opposed_at c.peers_are_lawful.ensures

pub returns-clause-journals : goal.returns-clause-journals
returns-clause-journals c = λ rules room e range few honest. journals_read c.worlds_are_lawful.ensures rules room e range few honest

pub returns-clause-cut_short : goal.returns-clause-cut_short
returns-clause-cut_short c = λ rules room e range few begun. never_accused c.peers_are_lawful.ensures rules room e range few begun
