-- A writer that fails ends the answer.
use Rattle.std.proofs.Common.{rules}
use Rattle.c8_texts.proofs.datagram.tell.Goals as goal

-- a fault found here is returned at once
pub returns-in-Err : goal.returns-in-Err
returns-in-Err g c = search rules
