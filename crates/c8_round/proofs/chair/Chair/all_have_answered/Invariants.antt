-- Each player below `number` has answered with no more than player 1 holds, or need not answer.
use Rattle.std.proofs.Common.{◌≡◌, ◌||◌, not, length, ◌-◌, true}
use Rattle.std.specs.List.{list_all, range_with_len}
use Rattle.c8_known.specs.Known.{count_in}
use Rattle.c8_round.specs.Round.{report_of, has_answered, is_stayer}
use Rattle.c8_round.proofs.chair.Chair.all_have_answered.Given as goal

-- all players before have answered
abbrev pub invariant-loop-number : goal.invariant-loop-number
invariant-loop-number l =
    list_all (λ q. not (is_stayer l.known q) || has_answered (count_in l.known l.leaver.number) (report_of l.self l.leaver.number q))
    (range_with_len 1 (l.number - 1)) ≡ true
