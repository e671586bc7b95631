-- The lines so far are what was made, in order; each was made.
use Rattle.std.proofs.Common.{◌≡◌, map, Ok}
use Rattle.c8_judge.proofs.matches.all_of.Given as goal

abbrev pub invariant-loop-one : goal.invariant-loop-one
invariant-loop-one l = map Ok l.lines.items ≡ l.yielded
