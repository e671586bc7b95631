-- After the LEAVE of its own player, a journal other than player 1's takes no record but openings.
use Rattle.std.proofs.Common.{rules}
use Rattle.c8_record.proofs.allowed.may_follow.Goals as goal

pub returns-in_default : goal.returns-in_default
returns-in_default c = search rules
