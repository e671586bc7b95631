-- All frames below `frame` are run, and the shown machine is the run of their best rows.
use Rattle.std.proofs.Common.{◌≡◌, ◌+◌}
use Rattle.c8_machine.specs.State.{state}
use Rattle.c8_digest.specs.Origin.{Origin, run_since}
use Rattle.c8_known.specs.Confirmed.{best_rows_below}
use Rattle.c8_roll.specs.checked.Timeline.{IsTimeline, IsRunOf}
use Rattle.c8_roll.proofs.timeline.Timeline.run_on.Given as goal

abbrev pub invariant-loop-frame : goal.invariant-loop-frame
invariant-loop-frame l = record {
  is : IsTimeline l.self;
  rules : l.self.rules ≡ l.initial.self.rules;
  first : l.self.first ≡ l.initial.self.first;
  ticks : l.self.ticks ≡ l.frame;
  counted : l.self.last_run + l.initial.self.ticks ≡ l.initial.self.last_run + l.self.ticks;
  run : (from : Origin) → IsRunOf from l.known l.initial.self → IsRunOf from l.known l.self;
  shown : (from : Origin) → IsRunOf from l.known l.initial.self
      → state l.self.shown ≡ run_since l.initial.self.rules from (best_rows_below l.known l.frame);
}
