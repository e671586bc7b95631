-- No two rows before `place` differ, so the lists differ exactly if their rests do.
use Rattle.std.proofs.Common.{◌≡◌, drop}
use Rattle.c8_wire.specs.Lent.{shown}
use Rattle.c8_spectator.specs.Watching.{differ}
use Rattle.c8_spectator.proofs.judging.differ.Given as goal

-- some rows differ if some of the remaining ones do
abbrev pub invariant-loop-place : goal.invariant-loop-place
invariant-loop-place l = differ l.taken (shown l.rows) ≡ differ (drop l.place l.taken) (drop l.place (shown l.rows))
