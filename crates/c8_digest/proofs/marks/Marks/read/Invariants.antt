-- The first `k` marks in the bytes are put.
use Rattle.c8_digest.specs.Marks.{marks_in}
use Rattle.c8_digest.proofs.MarkBytesLemmas.{ArePut}
use Rattle.c8_digest.proofs.marks.Marks.read.Given as goal

abbrev pub invariant-loop-k : goal.invariant-loop-k
invariant-loop-k l = ArePut l.fn.self l.self (marks_in l.fn.frames l.fn.bytes) l.k
