-- The code's types and the machine's invariants keep each part of the state in its range.
use Rattle.std.proofs.Common.{arith}
use Rattle.c8_machine.proofs.StateLemmas.{is_state}
use Rattle.c8_machine.proofs.machine.Machine.in_range.Goals as goal

pub returns : goal.returns
returns c =
    is_state c.args.self.now c.are_bytes.ensures c.are_bytes-2.ensures (omega arith) (omega arith) (omega arith)
    c.are_numbers.ensures.timer c.are_numbers.ensures.tone c.are_numbers.ensures.keys c.are_numbers.ensures.draws
