-- The bytes of all reads so far have come, each key has noted their signals, and nothing was drawn.
use Rattle.std.proofs.Common.{◌≡◌, false, ℕ, List}
use Rattle.c8_play.specs.Typing.{HasCome}
use Rattle.c8_play.specs.Desk.{typing, drawn_at, MayForget}
use Rattle.c8_play.proofs.desk.Desk.read_waiting.Given as goal

-- the bytes so far are taken
abbrev pub invariant-loop : goal.invariant-loop
invariant-loop g l = record {
  bytes : List ℕ;
  came : HasCome bytes (typing g.C.Console l.initial.self) (typing g.C.Console l.self);
  none : l.has_come ≡ false → typing g.C.Console l.self ≡ typing g.C.Console l.initial.self;
  seen : MayForget l.initial.self l.self;
  drawn : drawn_at g.C.Console l.self ≡ drawn_at g.C.Console l.initial.self;
}
