-- If each of the four places has no checkpoint or a true one, all checkpoints are true.
use Rattle.std.proofs.Common.{◌≡◌, arith}
use Rattle.c8_audit.specs.Read.{all_seen}
use Rattle.c8_audit.proofs.TruthLemmas.{true_at_end}
use Rattle.c8_audit.proofs.truth.first_untrue.Goals as goal

pub returns : goal.returns
returns c =
    let end : c.loop-number.number ≡ 5 = omega (arith, c.loop-number-test.false, c.loop-number.auto.number-end) in
    true_at_end c.args.game.now (all_seen c.args.journals.now) c.requires (λ p from below. c.loop-number.invariant p from (omega (arith, below, end)))
