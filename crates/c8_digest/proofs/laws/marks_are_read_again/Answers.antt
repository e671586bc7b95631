-- Each mark takes 8 bytes and its frame follows from its place, so marks read back from their bytes.
use Rattle.c8_digest.proofs.MarkBytesLemmas.{read_again, zeros_again}
use Rattle.c8_digest.proofs.laws.marks_are_read_again.Goals as goal

pub returns-clause-read : goal.returns-clause-read
returns-clause-read c = read_again

pub returns-clause-zeros : goal.returns-clause-zeros
returns-clause-zeros c = zeros_again
