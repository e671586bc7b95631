-- The rows given for the frames before this one are their best rows still.
use Rattle.std.proofs.Common.{◌≡◌, ◌≤◌, take}
use Rattle.c8_known.specs.Confirmed.{best_rows_below}
use Rattle.c8_peer.specs.Peer.{known_by}
use Rattle.c8_embed.proofs.steps.Steps.first_change.Given as goal

abbrev pub invariant-loop-frame : goal.invariant-loop-frame
invariant-loop-frame g l = record {
  same : take l.frame l.self.given ≡ best_rows_below (known_by l.peer) l.frame;
  within : l.frame ≤ l.end;
}
