-- The first `k` bytes are loaded, each from its own address modulo 4096.
use Rattle.std.proofs.Common.{◌≡◌, ℕ, ◌+◌, ◌%◌, ◌<◌, get_or}
use Rattle.c8_machine.proofs.machine.memory.load.Given as goal

abbrev pub invariant-loop-k : goal.invariant-loop-k
invariant-loop-k l = (j : ℕ) → j < l.k → get_or l.bytes j 0 ≡ get_or l.memory ((l.from + j) % 0x1000) 0
