-- Digits that spell bytes give these bytes.
use Rattle.std.proofs.Common.{rules}
use Rattle.c8_texts.proofs.datagram.bytes_of.Goals as goal

-- a fault found here is returned at once
pub returns-in-Ok : goal.returns-in-Ok
returns-in-Ok c = search rules
