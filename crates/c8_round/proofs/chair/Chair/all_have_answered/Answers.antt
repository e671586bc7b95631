-- One stayer without an answer, or with a greater one than player 1's count, makes the leaver not ready.
use Rattle.std.proofs.Common.{rules, ◌≡◌, ◌+◌, ◌≤◌, ◌||◌, ℕ, Bool, false, not, length, sym, ◌∙◌, arith}
use Rattle.c8_known.specs.Known.{count_in}
use Rattle.c8_round.specs.Round.{report_of, has_answered, is_stayer}
use Rattle.c8_round.proofs.RoundLemmas.{fails_at}
use Rattle.c8_round.proofs.chair.Chair.all_have_answered.Goals as goal

-- the player that has not answered is one of them
pub returns-then-not-is_settled : goal.returns-then-not-is_settled
returns-then-not-is_settled c =
    let k = c.args.known.now in
    let leaver : ℕ = c.args.leaver.number in
    let n : ℕ = c.loop-number.number in
    let test : ℕ → Bool = λ q. not (is_stayer k q) || has_answered (count_in k leaver) (report_of c.args.self.now leaver q) in
    sym (fails_at test (length k.players) n (search rules) (search rules) (sym c.is_settled.ensures ∙ c.if-not-is_settled.true))
