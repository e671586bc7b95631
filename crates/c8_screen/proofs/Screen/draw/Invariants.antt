-- The first `k` rows of the sprite are flipped, and `met` says whether one of their points was lit.
use Rattle.c8_screen.proofs.DrawLemmas.{IsDrawn}
use Rattle.c8_screen.proofs.Screen.draw.Given as goal

abbrev pub invariant-loop-k : goal.invariant-loop-k
invariant-loop-k l = IsDrawn l.initial.self.rows l.self.rows l.bytes l.left l.top l.k l.met
