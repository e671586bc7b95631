-- The viewer stays one of the board at which it looks.
use Rattle.std.proofs.Common.{◌≡◌}
use Rattle.c8_thread_tests.proofs.threads.look_all.Given as goal

abbrev pub invariant-loop : goal.invariant-loop
invariant-loop l = l.viewer.board ≡ l.board
