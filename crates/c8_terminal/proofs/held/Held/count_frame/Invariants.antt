-- The keys before this one have counted the frame, and the others are as they were.
use Rattle.std.proofs.Common.{ℕ, ◌<◌, ◌≤◌, ◌≡◌, length}
use Rattle.c8_terminal.specs.Held.{press_at}
use Rattle.c8_terminal.specs.Strokes.{after_frame}
use Rattle.c8_terminal.proofs.held.Held.count_frame.Given as goal

abbrev pub invariant-loop-key : goal.invariant-loop-key
invariant-loop-key l = record {
  hold : l.self.hold ≡ l.fn.self.hold;
  size : length l.self.presses ≡ 16;
  before : (k : ℕ) → k < l.key → press_at l.self k ≡ after_frame (press_at l.fn.self k);
  after : (k : ℕ) → l.key ≤ k → press_at l.self k ≡ press_at l.fn.self k;
}
