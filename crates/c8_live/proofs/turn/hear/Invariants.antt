-- The wire gave at most one packet a round, the peer has heard only these, and the session has noted the HELLOs among them.
use Rattle.std.specs.Prelude.{◌≤◌}
use Rattle.c8_transport.specs.Wire.{most_packets}
use Rattle.c8_session.specs.Notes.{notes_of}
use Rattle.c8_live.specs.Owed.{HasNoted}
use Rattle.c8_live.proofs.turn.hear.Given as goal

abbrev pub invariant-loop : goal.invariant-loop
invariant-loop g l = record {
  noted : HasNoted g.D.Disk g.W.Wire l.counter l.initial.session.peer l.session.peer (notes_of l.initial.session) (notes_of l.session)
      l.initial.wire l.wire;
  within : l.counter ≤ most_packets;
}
