-- The lowest bit of the keys that went up is the lowest such key; without a bit there is none.
use Rattle.std.proofs.Common.{arith}
use Rattle.c8_machine.proofs.KeyLemmas.{lowest_released-none, lowest_released-some}
use Rattle.c8_machine.proofs.machine.frames.lowest_released.Goals as goal

pub returns-then-released-eq0 : goal.returns-then-released-eq0
returns-then-released-eq0 c = lowest_released-none c.args.before.0 c.args.keys.0 (omega arith) c.if-released-eq0.true

pub returns-else-released-eq0 : goal.returns-else-released-eq0
returns-else-released-eq0 c = lowest_released-some c.args.before.0 c.args.keys.0 (omega arith) (omega arith) c.if-released-eq0.false
