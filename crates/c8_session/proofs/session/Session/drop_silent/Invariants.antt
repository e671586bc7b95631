-- So far the loop has only dropped players.
use Rattle.std.specs.Prelude.{◌≡◌}
use Rattle.c8_session.specs.Notes.{notes_of}
use Rattle.c8_session.specs.Turns.{Drops, HasCalled}
use Rattle.c8_session.proofs.session.Session.drop_silent.Given as goal

abbrev pub invariant-loop-number : goal.invariant-loop-number
invariant-loop-number g l = record {
  ran : HasCalled g.D.Disk Drops l.initial.self.peer l.self.peer;
  notes : notes_of l.self ≡ notes_of l.initial.self;
}
