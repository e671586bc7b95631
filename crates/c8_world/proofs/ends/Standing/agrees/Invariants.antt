-- Of the frames that both count as confirmed, those below `frame` have the same rows.
use Rattle.std.proofs.Common.{◌≡◌, ℕ, ◌<◌}
use Rattle.c8_known.specs.Confirmed.{row}
use Rattle.c8_world.specs.Ends.{known_at, both}
use Rattle.c8_world.proofs.ends.Standing.agrees.Given as goal

-- the frames so far have the same rows
abbrev pub invariant-loop-frame : goal.invariant-loop-frame
invariant-loop-frame l = record {
  frames : l.frames ≡ both (known_at l.self) (known_at l.other);
  same : (frame : ℕ) → frame < l.frame → row (known_at l.self) frame ≡ row (known_at l.other) frame;
}
