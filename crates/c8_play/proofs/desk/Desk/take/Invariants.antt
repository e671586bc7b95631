-- The decoder has read the bytes so far, and each key is as after their signals.
use Rattle.std.proofs.Common.{◌≡◌, ◌<◌, ℕ, take}
use Rattle.c8_terminal.specs.Decoder.{read_by}
use Rattle.c8_terminal.specs.Held.{press_at, hold_of}
use Rattle.c8_terminal.specs.Sent.{told_by}
use Rattle.c8_play.specs.Typing.{read_after, after_signals}
use Rattle.c8_play.specs.Desk.{MayForget}
use Rattle.c8_play.proofs.desk.Desk.take.Given as goal

-- the bytes so far are taken
abbrev pub invariant-loop-byte : goal.invariant-loop-byte
invariant-loop-byte g l = record {
  read : read_by l.self.decoder ≡ read_after (take l.byte-index l.bytes) (read_by l.initial.self.decoder);
  hold : hold_of l.self.held ≡ hold_of l.initial.self.held;
  press : (key : ℕ) → key < 16 → press_at l.self.held key
      ≡ after_signals (hold_of l.initial.self.held) (told_by (take l.byte-index l.bytes) (read_by l.initial.self.decoder)) key
      (press_at l.initial.self.held key);
  seen : MayForget l.initial.self l.self;
  console : l.self.console ≡ l.initial.self.console;
}
