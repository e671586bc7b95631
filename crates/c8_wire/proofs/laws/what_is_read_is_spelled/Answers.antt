-- Bytes that pass the whole table of refusals are the spelling of the packet read from them.
use Rattle.c8_wire.proofs.ReadLemmas.{spelled_read, spelled_unrefused}
use Rattle.c8_wire.proofs.laws.what_is_read_is_spelled.Goals as goal

pub returns-clause-read : goal.returns-clause-read
returns-clause-read c = spelled_read

pub returns-clause-refusal : goal.returns-clause-refusal
returns-clause-refusal c = spelled_unrefused
