-- In a journal other than player 1's, a CUT of a frozen player may follow exactly if no CUT of it came before.
use Rattle.std.proofs.Common.{rules}
use Rattle.c8_record.proofs.allowed.may_cut.Goals as goal

pub returns-then-has_freeze : goal.returns-then-has_freeze
returns-then-has_freeze c = search rules
