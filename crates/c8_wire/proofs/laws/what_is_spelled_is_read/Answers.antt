-- No refusal applies to the spelling of a packet, and the packet reads back from it.
use Rattle.c8_wire.proofs.PacketLemmas.{again}
use Rattle.c8_wire.proofs.ReadLemmas.{read_spelled}
use Rattle.c8_wire.proofs.laws.what_is_spelled_is_read.Goals as goal

pub returns-clause-read : goal.returns-clause-read
returns-clause-read c = read_spelled

pub returns-clause-refusal : goal.returns-clause-refusal
returns-clause-refusal c = λ bytes p spells. (again bytes p spells).none
