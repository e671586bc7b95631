-- Two right answers are of one kind.
use Rattle.c8_audit.proofs.AnswerLemmas.{one_entered, one_agreed, two_inputs}
use Rattle.c8_audit.proofs.laws.one_answer_is_right.Goals as goal

pub returns-clause-entered : goal.returns-clause-entered
returns-clause-entered c = one_entered

pub returns-clause-agree : goal.returns-clause-agree
returns-clause-agree c = one_agreed

pub returns-clause-no : goal.returns-clause-no
returns-clause-no c = two_inputs
