-- Why the game was not read, or the first fault of its key lines, is the answer at once.
use Rattle.std.proofs.Common.{rules}
use Rattle.c8_texts.proofs.command.played_from.Goals as goal

-- a fault found here is returned at once
pub returns : goal.returns
returns c = search rules

pub returns-in_err-played : goal.returns-in_err-played
returns-in_err-played c = search rules
