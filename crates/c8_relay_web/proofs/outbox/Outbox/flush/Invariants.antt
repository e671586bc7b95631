-- What was sent was the front of what waited.
use Rattle.std.proofs.Common.{◌≡◌, ℕ, drop, slice_range}
use Rattle.c8_relay_web.proofs.outbox.Outbox.flush.Given as goal

abbrev pub invariant-loop : goal.invariant-loop
invariant-loop l =
    (sent : ℕ) × (slice_range l.self.bytes l.self.first l.self.last
    ≡ drop sent (slice_range l.fn.self.bytes l.fn.self.first l.fn.self.last))
