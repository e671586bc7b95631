-- A tick within the game's frames and the window may follow exactly if the own player was not dropped.
use Rattle.std.proofs.Common.{rules}
use Rattle.c8_record.proofs.allowed.may_own.Goals as goal

pub returns-then-ticks-confirmed : goal.returns-then-ticks-confirmed
returns-then-ticks-confirmed c = search rules
