-- The player at `place` agrees with each player before `other`.
use Rattle.std.proofs.Common.{ℕ, ◌<◌}
use Rattle.c8_world.specs.Ends.{AgreesWith}
use Rattle.c8_world.proofs.ends.agrees_with_all.Given as goal

abbrev pub invariant-loop-other : goal.invariant-loop-other
invariant-loop-other l = (j : ℕ) → j < l.other → AgreesWith l.standings l.place j
