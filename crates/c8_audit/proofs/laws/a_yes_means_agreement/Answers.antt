-- What the readings make known is what the peers of the worlds know, so each verdict speaks of the worlds.
use Rattle.c8_audit.proofs.YesLemmas.{yes_entered, yes_true, yes_agreed, yes_result}
use Rattle.c8_audit.proofs.laws.a_yes_means_agreement.Goals as goal

pub returns-clause-entered : goal.returns-clause-entered
returns-clause-entered c = yes_entered

pub returns-clause-checks : goal.returns-clause-checks
returns-clause-checks c = yes_true

pub returns-clause-agree : goal.returns-clause-agree
returns-clause-agree c = yes_agreed

pub returns-clause-result : goal.returns-clause-result
returns-clause-result c = yes_result
