-- The mark found so far is the last of this frame among the first `n` marks.
use Rattle.std.proofs.Common.{◌≡◌, take}
use Rattle.c8_digest.specs.Marks.{mark_at}
use Rattle.c8_digest.proofs.marks.Marks.get.Given as goal

abbrev pub invariant-loop-n : goal.invariant-loop-n
invariant-loop-n l = l.found ≡ mark_at l.fn.frame (take l.n l.fn.self)
