-- The wire took only what the peer said so far, and gave nothing. What was said and what is left are all that was due.
use Rattle.std.specs.Prelude.{◌≡◌, ◌+◌, ◌≤◌, List, ◌++◌, length}
use Rattle.c8_peer.specs.State.{Call}
use Rattle.c8_session.specs.Due.{left_to_say, is_speaking, places_of_turn}
use Rattle.c8_session.specs.Notes.{notes_of}
use Rattle.c8_live.specs.Owed.{HasSaid}
use Rattle.c8_live.proofs.turn.speak.Given as goal

abbrev pub invariant-loop : goal.invariant-loop
invariant-loop g l = record {
  same : l.session.peer ≡ l.initial.session.peer;
  notes : notes_of l.session ≡ notes_of l.initial.session;
  speaks : is_speaking l.session ≡ is_speaking l.initial.session;
  said : (calls : List Call) × HasSaid g.D.Disk g.W.Wire l.initial.session.peer calls l.initial.wire l.wire
      × (calls ++ left_to_say l.session ≡ left_to_say l.initial.session);
  few : length (left_to_say l.session) + l.counter ≤ places_of_turn;
}
