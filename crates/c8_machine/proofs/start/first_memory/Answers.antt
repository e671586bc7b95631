-- Patterns and program have places of their own, so memory has both, and 0 elsewhere.
use Rattle.c8_machine.proofs.MemoryLemmas.{first_memory_is}
use Rattle.c8_machine.proofs.start.first_memory.Goals as goal

pub returns : goal.returns
returns c =
    first_memory_is c.args.program.now c.place.new.memory c.place-2.new.memory
    (record { placed = c.place.ensures.placed; before = c.place.ensures.before; after = c.place.ensures.after })
    (record { placed = c.place-2.ensures.placed; before = c.place-2.ensures.before; after = c.place-2.ensures.after })
