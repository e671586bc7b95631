-- What is spelled reads back from the bytes, so no two packets have the same spelling.
use Rattle.c8_wire.proofs.ReadLemmas.{one_packet}
use Rattle.c8_wire.proofs.laws.bytes_spell_one_packet.Goals as goal

pub returns : goal.returns
returns c = one_packet
