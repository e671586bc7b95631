-- The first `k` bytes are in memory from the address on, and all other addresses are as before.
use Rattle.c8_machine.proofs.MemoryLemmas.{IsStored}
use Rattle.c8_machine.proofs.machine.memory.store.Given as goal

abbrev pub invariant-loop-k : goal.invariant-loop-k
invariant-loop-k l = IsStored l.bytes l.initial.memory l.memory l.from l.k
