-- A leaver with a LEAVE and a ready round, not cut yet, is cut at the inputs that player 1 holds.
use Rattle.std.proofs.Common.{rules}
use Rattle.c8_peer.specs.Calls.{decide}
use Rattle.c8_peer.proofs.judging.judge_decide.Goals as goal

-- with every refusal ruled out, the answer follows from the definition
pub returns-clause-judged : goal.returns-clause-judged
unfolding decide
returns-clause-judged c = search rules
