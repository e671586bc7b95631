-- All readings have a place in one match, so the laws about worlds make each verdict yes.
use Rattle.c8_audit.proofs.AccusedLemmas.{honest_entered, honest_true, honest_agreed, first_journal, later_journal}
use Rattle.c8_audit.proofs.laws.an_honest_match_is_never_accused.Goals as goal

pub returns-clause-entered : goal.returns-clause-entered
returns-clause-entered c = honest_entered c.worlds_are_lawful.ensures

pub returns-clause-checks : goal.returns-clause-checks
returns-clause-checks c = honest_true c.worlds_are_lawful.ensures

pub returns-clause-agree : goal.returns-clause-agree
returns-clause-agree c = honest_agreed c.worlds_are_lawful.ensures

pub returns-clause-journals : goal.returns-clause-journals
returns-clause-journals c = λ rules room e range few honest p r is. (
  first_journal c.worlds_are_lawful.ensures rules room e range few honest p r is,
  later_journal c.worlds_are_lawful.ensures rules room e range few honest p r is,
)
