-- The lines of the players before this one were added, from player 1 on.
use Rattle.c8_script.proofs.PrintLemmas.{TalliesSoFar}
use Rattle.c8_script.proofs.answers.write_tallies.Given as goal

-- the lines of the players so far are written
abbrev pub invariant-loop-before : goal.invariant-loop-before
invariant-loop-before g l = TalliesSoFar (g.W.Write.contents l.initial.out) (g.W.Write.contents l.out) l.players l.tallies l.before
