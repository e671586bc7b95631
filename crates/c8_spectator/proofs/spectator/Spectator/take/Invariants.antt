-- The rows taken so far with those still to add are the first rows with all fresh ones.
use Rattle.std.proofs.Common.{◌≡◌, drop}
use Rattle.c8_wire.specs.Lent.{shown}
use Rattle.c8_spectator.specs.Watching.{with_rows}
use Rattle.c8_spectator.proofs.spectator.Spectator.take.Given as goal

-- the rows taken so far, and the remaining ones
abbrev pub invariant-loop-place : goal.invariant-loop-place
invariant-loop-place l = with_rows l.self (drop l.place (shown l.rows)) ≡ with_rows l.fn.self (drop l.initial.place (shown l.rows))
