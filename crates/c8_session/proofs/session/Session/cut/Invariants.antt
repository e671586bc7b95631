-- So far the loop has only cut.
use Rattle.std.specs.Prelude.{◌≡◌}
use Rattle.c8_session.specs.Notes.{notes_of}
use Rattle.c8_session.specs.Turns.{Cuts, HasCalled}
use Rattle.c8_session.proofs.session.Session.cut.Given as goal

abbrev pub invariant-loop-number : goal.invariant-loop-number
invariant-loop-number g l = record {
  ran : HasCalled g.D.Disk Cuts l.initial.self.peer l.self.peer;
  notes : notes_of l.self ≡ notes_of l.initial.self;
}
