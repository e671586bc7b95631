-- What cannot be sealed is left out. What was left to say is what was left out so far, and what is left now.
use Rattle.std.specs.Prelude.{◌≡◌, ◌<◌, ◌≤◌, ◌++◌, List, length}
use Rattle.std.specs.List.{All}
use Rattle.c8_peer.specs.State.{Call}
use Rattle.c8_session.specs.Due.{places_of_turn}
use Rattle.c8_embed.specs.Endpoint.{HasPassed, IsLeftOut}
use Rattle.c8_embed.proofs.endpoint.Endpoint.next_packet.Given as goal

abbrev pub invariant-loop-passed : goal.invariant-loop-passed
invariant-loop-passed l = record {
  same : HasPassed l.initial.self l.self;
  before : List Call;
  left_out : All (IsLeftOut l.initial.self) before;
  each : length before ≡ l._passed;
  in_order : l.initial.self.engine.left ≡ before ++ l.self.engine.left;
  few : 0 < l._passed → length l.initial.self.engine.left ≤ places_of_turn;
}
