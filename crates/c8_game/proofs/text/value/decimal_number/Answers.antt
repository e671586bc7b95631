-- One more digit makes the number ten times as great plus the digit; 20 digits need no more than 128 bits.
use Rattle.std.proofs.Common.{refl, ◌<◌}
use Rattle.c8_game.proofs.ValueLemmas.{decimal_next, ten_more, digit_small}
use Rattle.c8_game.proofs.text.value.decimal_number.Goals as goal

pub loop-digit-preserved : goal.loop-digit-preserved
loop-digit-preserved c =
    let small : c.from.result < 10 = rw c.from.ensures (digit_small c.args.text.now c.requires c.loop-digit.digit-index c.loop-digit-test.true) in (
      rw (c.from.ensures, decimal_next c.args.text.now c.loop-digit.digit-index c.loop-digit-test.true, c.loop-digit.invariant.0) refl,
      ten_more c.loop-digit.number c.from.result c.loop-digit.digit-index c.loop-digit.invariant.1 small,
    )
