-- The board of the test begins before the first frame, and has no row yet.
use Rattle.std.proofs.Common.{[]}
use Rattle.c8_thread_tests.specs.Idle.{first_start}
use Rattle.c8_thread_tests.proofs.board.opened.Given as goal

abbrev pub ghost-open : goal.ghost-open
ghost-open a = record { from = first_start a.game.now; rows = [] }
