-- The first step gives a packet that has come; each step keeps the number.
use Rattle.std.proofs.Common.{◌≡◌, ◌≤◌, ◌<◌, ℕ, []}
use Rattle.std.specs.Vec.{vec_capacity}
use Rattle.websocket.specs.Connection.{max_reply_len}
use Rattle.c8_relay_web.specs.Steps.{HasPacket, unread, waiting}
use Rattle.c8_relay_web.proofs.connection.Connection.next.Given as goal

abbrev pub invariant-loop-step : goal.invariant-loop-step
invariant-loop-step l = record {
  number : l.self.guest.number ≡ l.fn.self.guest.number;
  first : l._step ≡ 0 → (l.self ≡ l.fn.self) × (l.shared ≡ l.fn.shared);
  served :
      0 < l._step → (size : ℕ) → waiting l.fn.self ≡ [] → HasPacket l.fn.self.stage (unread l.fn.self) size
      → max_reply_len ≤ vec_capacity l.fn.shared.frame → ⊥;
}
