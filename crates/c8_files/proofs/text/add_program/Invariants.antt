-- The lines of code so far spell the program but for the rest, which gets shorter with each line.
use Rattle.std.proofs.Common.{length}
use Rattle.c8_files.proofs.BlockLemmas.{IsWritten}
use Rattle.c8_files.proofs.text.add_program.Given as goal

abbrev pub invariant-loop-rest : goal.invariant-loop-rest
invariant-loop-rest l = IsWritten l.initial.text.items l.text.items l.program l.rest

abbrev pub decreases-loop-rest : goal.decreases-loop-rest
decreases-loop-rest l = length l.rest
