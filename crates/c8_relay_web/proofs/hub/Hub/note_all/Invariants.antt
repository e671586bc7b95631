-- An event is no packet: nothing counts as sent or received.
use Rattle.std.proofs.Common.{◌≡◌}
use Rattle.c8_relay_web.proofs.hub.Hub.note_all.Given as goal

abbrev pub invariant-loop-event : goal.invariant-loop-event
invariant-loop-event l = l.self.passed ≡ l.initial.self.passed
