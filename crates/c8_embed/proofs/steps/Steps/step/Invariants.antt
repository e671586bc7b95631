-- The rows given are the best ones of the frames before this one, and the reserved room is still there.
use Rattle.std.proofs.Common.{◌≡◌, ◌≤◌}
use Rattle.std.specs.Prelude.{vec_capacity}
use Rattle.c8_known.specs.Confirmed.{best_rows_below}
use Rattle.c8_peer.specs.Peer.{known_by}
use Rattle.c8_embed.proofs.steps.Steps.step.Given as goal

abbrev pub invariant-loop-frame : goal.invariant-loop-frame
invariant-loop-frame g l = record {
  given : l.self-inside.given.items ≡ best_rows_below (known_by l.peer) l.frame;
  within : l.frame ≤ l.frame-end;
  room : l.self-inside.room ≡ l.fn.self.room;
  fits : l.self-inside.room ≤ vec_capacity l.self-inside.given;
}
