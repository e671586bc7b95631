-- The bytes of a state are its memory and then the parts after it.
use Rattle.std.proofs.Common.{List, ℕ, ◌++◌, map, sym, ap, ◌∙◌}
use Rattle.std.specs.Prelude.{slice_index}
use Rattle.std.specs.List.{range_with_len}
use Rattle.c8_machine.specs.State.{state}
use Rattle.c8_digest.specs.checked.Parts.{after_memory, memory_first}
use Rattle.c8_digest.proofs.digest.spelled.Goals as goal

pub returns-clause-bytes : goal.returns-clause-bytes
returns-clause-bytes c =
    let memory : List ℕ = map (slice_index c.memory.result.now) (range_with_len 0 4096) in
    c.put_after_memory.ensures.bytes
    ∙ ap (λ (items : List ℕ). items ++ after_memory (state c.args.machine.now))
    (c.put_memory.ensures.bytes ∙ ap (λ (items : List ℕ). items ++ memory) c.new-bytes.ensures)
    ∙ (λ i. map (c.memory.ensures i) (range_with_len 0 4096) ++ after_memory (state c.args.machine.now))
    ∙ sym (memory_first (state c.args.machine.now))
