-- Each player before `place` agrees with all players.
use Rattle.std.proofs.Common.{ℕ, ◌<◌}
use Rattle.c8_world.specs.Ends.{AgreesWithAll}
use Rattle.c8_world.proofs.ends.all_agree.Given as goal

abbrev pub invariant-loop-place : goal.invariant-loop-place
invariant-loop-place l = (i : ℕ) → i < l.place → AgreesWithAll l.standings i
