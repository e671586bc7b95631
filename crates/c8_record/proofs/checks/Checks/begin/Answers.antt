-- The plan is the machine's bytes, one zero and the marks' bytes.
use Rattle.std.proofs.Common.{◌++◌, ◌∙◌}
use Rattle.std.specs.Prelude.{replicate}
use Rattle.c8_record.specs.Checks.{save_bytes}
use Rattle.c8_record.proofs.checks.Checks.begin.Goals as goal

pub returns-clause-plan : goal.returns-clause-plan
unfolding save_bytes
returns-clause-plan c = c.saved-self.ensures ∙ (λ i. c.state_bytes.ensures i ++ replicate 1 0 ++ c.bytes.ensures i)
