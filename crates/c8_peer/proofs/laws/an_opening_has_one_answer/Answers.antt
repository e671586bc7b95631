-- Two ends of an opening that was served exclude each other, so what was found decides which one it has.
use Rattle.c8_peer.proofs.OneOpening.{one_opening, would_stand, one_answer}
use Rattle.c8_peer.proofs.laws.an_opening_has_one_answer.Goals as goal

pub returns-clause-served : goal.returns-clause-served
returns-clause-served c = one_opening

pub returns-clause-answer : goal.returns-clause-answer
returns-clause-answer c = one_answer

pub returns-clause-refused : goal.returns-clause-refused
returns-clause-refused c = would_stand
