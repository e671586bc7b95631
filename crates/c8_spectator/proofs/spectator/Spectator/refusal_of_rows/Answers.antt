-- The checks have the order of the definition: Absent, Full, Gap, Differs.
use Rattle.std.proofs.Common.{arith}
use Rattle.std.proofs.lemmas.Grind.{common_steps}
use Rattle.c8_spectator.specs.Watching.{refusal_of_rows}
use Rattle.c8_spectator.proofs.spectator.Spectator.refusal_of_rows.Goals as goal

pub returns-then-differ-clause-refusal : goal.returns-then-differ-clause-refusal
unfolding refusal_of_rows
returns-then-differ-clause-refusal c = grind (arith, common_steps)

pub returns-clause-refusal : goal.returns-clause-refusal
unfolding refusal_of_rows
returns-clause-refusal c = grind (arith, common_steps)
