-- The lines of the answers before this one were added, numbered from 1.
use Rattle.c8_script.proofs.PrintLemmas.{LinesSoFar}
use Rattle.c8_script.proofs.answers.write_answers.Given as goal

-- the lines of the answers so far are written
abbrev pub invariant-loop-before : goal.invariant-loop-before
invariant-loop-before g l = LinesSoFar (g.W.Write.contents l.initial.out) (g.W.Write.contents l.out) l.answers l.before
