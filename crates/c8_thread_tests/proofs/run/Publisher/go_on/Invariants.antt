-- To run more frames leaves the pen as it was.
use Rattle.std.proofs.Common.{◌≡◌}
use Rattle.c8_thread_tests.proofs.run.Publisher.go_on.Given as goal

abbrev pub invariant-loop : goal.invariant-loop
invariant-loop l = l.self.pen ≡ l.initial.self.pen
