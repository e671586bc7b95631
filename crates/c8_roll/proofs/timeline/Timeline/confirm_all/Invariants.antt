-- All frames below `frame` are confirmed, the marks reach up to it, and the run is still one on best guesses.
use Rattle.std.proofs.Common.{◌≡◌, ◌+◌, ◌≤◌, ℕ}
use Rattle.c8_known.specs.Confirmed.{confirmed}
use Rattle.c8_digest.specs.Origin.{Origin}
use Rattle.c8_roll.specs.Roll.{marks_since}
use Rattle.c8_roll.specs.checked.Timeline.{IsAll, IsRunOf}
use Rattle.c8_roll.proofs.timeline.Timeline.confirm_all.Given as goal

abbrev pub invariant-loop-frame : goal.invariant-loop-frame
invariant-loop-frame l = record {
  all : IsAll l.self;
  rules : l.self.rules ≡ l.initial.self.rules;
  first : l.self.first ≡ l.frame;
  later : l.initial.self.ticks ≤ l.self.ticks;
  within : (n : ℕ) → l.initial.self.ticks ≤ n → confirmed l.known ≤ n → l.self.ticks ≤ n;
  counted : l.self.last_run + l.initial.self.ticks ≡ l.initial.self.last_run + l.self.ticks;
  run : (from : Origin) → IsRunOf from l.known l.initial.self → IsRunOf from l.known l.self;
  marks : (from : Origin) → IsRunOf from l.known l.initial.self → l.frame ≤ confirmed l.known
      → l.initial.marks ≡ marks_since l.initial.self.rules from l.known l.initial.self.first
      → l.marks ≡ marks_since l.initial.self.rules from l.known l.frame;
}
