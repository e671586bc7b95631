-- The rows so far are those of the first `place` frames from `start` on.
use Rattle.std.proofs.Common.{◌≡◌}
use Rattle.std.specs.Prelude.{map}
use Rattle.std.specs.List.{range_with_len}
use Rattle.c8_known.specs.Confirmed.{row}
use Rattle.c8_peer.proofs.saying.rows_from.Given as goal

-- the rows so far
abbrev pub invariant-loop-place : goal.invariant-loop-place
invariant-loop-place l = l.rows.items ≡ map (row l.known) (range_with_len l.start l.place)
