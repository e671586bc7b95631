-- Bytes that some machine's state has give that state, so bytes that are refused are those of none.
use Rattle.std.proofs.Common.{sym, ap, ◌∙◌, arith}
use Rattle.std.proofs.lemmas.Bool.{both_ways}
use Rattle.std.specs.Cmp.Lexicographic.{bytes_decides}
use Rattle.c8_machine.specs.State.{state}
use Rattle.c8_digest.specs.StateBytes.{state_bytes}
use Rattle.c8_digest.specs.Reading.{state_in}
use Rattle.c8_digest.proofs.ReadLemmas.{state_read, state_again}
use Rattle.c8_digest.proofs.reading.read_state.Goals as goal

pub returns-in_err-machine-clause-none : goal.returns-in_err-machine-clause-none
returns-in_err-machine-clause-none c = λ none s is same.
    let read = state_read s c.args.bytes.now c.parts_in.result is same (omega arith) c.parts_in.ensures in
    both_ways _ (sym c.in_err-machine.ensures.only) read.1

pub returns-then-eq-clause-found : goal.returns-then-eq-clause-found
returns-then-eq-clause-found c =
    sym c.spelled.ensures.bytes ∙ sym c.as_slice.ensures.value ∙ (bytes_decides _ _).0 (sym c.eq.ensures ∙ c.if-eq.true) ∙ c.as_slice-2.ensures

pub returns-else-eq-clause-none : goal.returns-else-eq-clause-none
returns-else-eq-clause-none c = λ none s is same.
    let read = state_read s c.args.bytes.now c.parts_in.result is same (omega arith) c.parts_in.ensures in
    let spelled = c.as_slice.ensures.value ∙ c.spelled.ensures.bytes ∙ ap state_bytes (c.in_ok-machine.ensures.found ∙ read.0) ∙ same
    ∙ sym c.as_slice-2.ensures in
    both_ways c.eq.result c.if-eq.false (c.eq.ensures ∙ (bytes_decides _ _).1 spelled)

pub returns-then-eq-clause-state : goal.returns-then-eq-clause-state
returns-then-eq-clause-state c =
    sym (state_again (state c.in_ok-machine.machine) c.in_range.ensures) ∙ ap state_in (returns-then-eq-clause-found c)
