-- The memory's 4096 bytes are what a state has at the addresses from 0 on.
use Rattle.std.proofs.Common.{List, ℕ, ◌++◌, refl, sym, ap, ◌∙◌}
use Rattle.std.specs.Prelude.{slice_index}
use Rattle.c8_digest.proofs.StateLemmas.{memory_is}
use Rattle.c8_digest.proofs.digest.put_memory.Goals as goal

pub returns-clause-bytes : goal.returns-clause-bytes
returns-clause-bytes c = c.put.ensures.bytes
    ∙ ap (λ (bytes : List ℕ). c.args.out.now.items ++ bytes) (sym (memory_is c.args.memory.now (slice_index c.args.memory.now) refl c.told-memory))
