-- From the last counter down the marks are cleared, and those of earlier counters in the window stay.
use Rattle.std.proofs.Common.{◌≡◌, ◌+◌, ◌<◌, ◌≤◌, ℕ, false}
use Rattle.c8_transport.specs.SeenBits.{mark_of}
use Rattle.c8_transport.proofs.seen.clear.Given as goal

abbrev pub invariant-loop-step : goal.invariant-loop-step
invariant-loop-step l = record {
  cleared : (c : ℕ) → c ≤ l.greatest + l.count → l.greatest + l.count < c + l.step → mark_of l.marks c ≡ false;
  kept : (c : ℕ) → c ≤ l.greatest → l.greatest + l.count < c + 1024 → mark_of l.marks c ≡ mark_of l.fn.marks c;
}
