-- Another player's next inputs, within the limit, may follow exactly if its list is not cut.
use Rattle.std.proofs.Common.{rules}
use Rattle.c8_record.proofs.allowed.may_got.Goals as goal

pub returns-then-start-len : goal.returns-then-start-len
returns-then-start-len c = search rules
