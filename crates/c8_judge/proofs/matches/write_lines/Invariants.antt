-- The lines before this one are written, and the status is the worst so far.
use Rattle.c8_judge.proofs.MatchLemmas.{HasWritten}
use Rattle.c8_judge.proofs.matches.write_lines.Given as goal

abbrev pub invariant-loop-line : goal.invariant-loop-line
invariant-loop-line g l = HasWritten l.fn.before l.lines l.line-index (g.W.Write.contents l.initial.out) (g.W.Write.contents l.out) l.worst
