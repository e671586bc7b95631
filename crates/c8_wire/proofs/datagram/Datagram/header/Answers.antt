-- Each kind of datagram lends the header of its bytes under this kind.
use Rattle.std.proofs.Common.{rules}
use Rattle.c8_wire.proofs.datagram.Datagram.header.Goals as goal

-- what is wrong here is refused at once
pub returns : goal.returns
returns c = search rules
