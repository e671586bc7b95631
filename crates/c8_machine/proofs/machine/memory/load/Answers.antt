-- When all bytes are loaded, byte k is the one k addresses on, where 0 follows the last address.
use Rattle.std.proofs.Common.{◌+◌, ◌%◌, get_or, length, arith}
use Rattle.std.proofs.lemmas.List.FromFn.{fill_by_all}
use Rattle.c8_machine.proofs.machine.memory.load.Goals as goal

pub returns : goal.returns
returns c = fill_by_all (λ k. get_or c.args.memory.now ((c.args.from + k) % 0x1000) 0) c.loop-k.bytes (length c.args.bytes.now) 0
    (omega arith) (λ j h. c.loop-k.invariant j (omega arith))
