-- The fields by value are those that the bytes have, each decoded at its place.
use Rattle.std.proofs.Common.{rules}
use Rattle.c8_wire.proofs.header.Header.head.Goals as goal

-- what is wrong here is refused at once
pub returns : goal.returns
returns c = search rules
