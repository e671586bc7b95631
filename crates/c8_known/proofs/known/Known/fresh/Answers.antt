-- A run is refused for the first reason that applies; else what is past the held inputs is its new part.
use Rattle.std.proofs.Common.{rules, arith}
use Rattle.std.proofs.lemmas.Grind.{common_steps}
use Rattle.c8_known.specs.Fresh.{refusal}
use Rattle.c8_known.proofs.known.Known.fresh.Goals as goal

-- with this answer a wrong body is refused at once
pub returns-then-start-len-clause-judged : goal.returns-then-start-len-clause-judged
unfolding refusal
returns-then-start-len-clause-judged c = search rules

pub returns-then-start-count-clause-judged : goal.returns-then-start-count-clause-judged
unfolding refusal
returns-then-start-count-clause-judged c = grind (arith, common_steps)

pub returns-then-differ-clause-judged : goal.returns-then-differ-clause-judged
unfolding refusal
returns-then-differ-clause-judged c = grind (arith, common_steps)

pub returns-clause-judged : goal.returns-clause-judged
unfolding refusal
returns-clause-judged c = grind (arith, common_steps)

pub returns-clause-fresh : goal.returns-clause-fresh
returns-clause-fresh c = grind (arith, common_steps)

pub returns-clause-slice : goal.returns-clause-slice
returns-clause-slice c = grind (arith, common_steps)

pub returns-clause-room : goal.returns-clause-room
returns-clause-room c = grind (arith, common_steps)
