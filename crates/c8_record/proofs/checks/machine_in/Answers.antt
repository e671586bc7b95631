-- The machine found has the first bytes of the checkpoint; if none is found, no machine has these bytes.
use Rattle.std.proofs.Common.{sym, ◌∙◌}
use Rattle.c8_record.proofs.CheckLemmas.{machine_read}
use Rattle.c8_record.proofs.checks.machine_in.Goals as goal

pub returns-clause-found : goal.returns-clause-found
returns-clause-found c = machine_read c.read_state.result _ _ c.in-Some.ensures.cases.same c.read_state.ensures.range
    c.read_state.ensures.found c.read_state.ensures.state

pub returns-clause-none : goal.returns-clause-none
returns-clause-none c = λ none s is same. c.read_state.ensures.none none s is (same ∙ sym c.in-Some.ensures.cases.same)
