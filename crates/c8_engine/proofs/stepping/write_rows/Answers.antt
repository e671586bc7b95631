-- A row is four words, so the next row goes into the four places behind those that are written.
use Rattle.std.proofs.Common.{◌≡◌, ◌+◌, ◌*◌, ◌-◌, arith, ◌∙◌}
use Rattle.c8_engine.proofs.WordLemmas.{written, long_next}
use Rattle.c8_engine.proofs.stepping.write_rows.Goals as goal

pub loop-place-preserved : goal.loop-place-preserved
loop-place-preserved c =
    let p = c.loop-place.place in
    let k : 4 * p + 4 - 4 * p ≡ 4 = omega arith in
    record {
      words = written c.loop-place.words c.args.words.now c.copy_from_slice.new.self c.args.rows.now p (4 * p + 4 - 4 * p) _
          c.loop-place-test.true c.requires k c.loop-place.auto.words c.loop-place.invariant.long
          c.loop-place.invariant.words (c.copy_from_slice.ensures.after ∙ c.words_of_row.ensures.value) c.words_of_row.ensures.four;
      long = long_next c.args.rows.now p _ c.loop-place-test.true c.loop-place.invariant.long c.words_of_row.ensures.four;
    }
