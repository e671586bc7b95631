-- Digit by digit the number grows, and once it exceeds 64 bits no digits behind it can make it fit.
use Rattle.std.proofs.Common.{arith, ◌∙◌, sym, ap, rules}
use Rattle.std.proofs.lemmas.List.{take_all}
use Rattle.c8_game.specs.Fields.{decimal_number}
use Rattle.c8_script.proofs.DecimalLemmas.{number_next, digits_next, too_great, its_number}
use Rattle.c8_script.proofs.script.words.number_in.Goals as goal

pub returns-in_err-checked_mul : goal.returns-in_err-checked_mul
returns-in_err-checked_mul c =
    c.from_residual.ensures
    ∙ sym (too_great c.args.word.now c.loop-byte.byte-index c.loop-byte-test.true
    (omega (arith, c.in_err-checked_mul.ensures, c.loop-byte.invariant.number)))

pub returns-in_err-number : goal.returns-in_err-number
returns-in_err-number c =
    c.from_residual-in_err-number.ensures
    ∙ sym (too_great c.args.word.now c.loop-byte.byte-index c.loop-byte-test.true
    (omega (arith, c.in_err-number.ensures, c.in_ok-checked_mul.ensures, c.from.ensures, c.loop-byte.invariant.number)))

pub loop-byte-preserved : goal.loop-byte-preserved
loop-byte-preserved c = record {
  digits = digits_next c.args.word.now c.loop-byte.byte-index c.loop-byte-test.true c.loop-byte.invariant.digits (search rules);
  number = omega (
    arith,
    c.in_ok-number.ensures,
    c.in_ok-checked_mul.ensures,
    c.from.ensures,
    c.loop-byte.invariant.number,
    number_next c.args.word.now c.loop-byte.byte-index c.loop-byte-test.true,
  );
  fits = omega (arith, c.in_ok-number.ensures);
}

pub returns : goal.returns
returns c =
    let whole = take_all c.loop-byte.byte-index c.args.word.now c.loop-byte-test.false in
    sym (its_number c.args.word.now c.loop-byte.number (sym c.if-is_empty.ensures) c.if-word-gt20.false
    (rw whole at c.loop-byte.invariant.digits) (c.loop-byte.invariant.number ∙ ap decimal_number whole) c.loop-byte.invariant.fits)
