-- The publisher's pen stays that of the board to which it publishes.
use Rattle.std.proofs.Common.{◌≡◌}
use Rattle.c8_thread_tests.proofs.threads.publish_all.Given as goal

abbrev pub invariant-loop : goal.invariant-loop
invariant-loop l = l.publisher.pen.board ≡ l.board
