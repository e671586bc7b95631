-- Giving up players changes nothing of the peer.
use Rattle.std.proofs.Common.{◌≡◌}
use Rattle.c8_play.proofs.live.lose_patience.Given as goal

abbrev pub invariant-loop-number : goal.invariant-loop-number
invariant-loop-number g l = record { same : l.session.peer ≡ l.initial.session.peer }
