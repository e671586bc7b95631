-- Row `y` of the screen is read from its eight bytes, and the rows above it stay.
use Rattle.std.proofs.Common.{ap, ◌∙◌, arith}
use Rattle.std.proofs.lemmas.List.{length-set}
use Rattle.std.specs.Int.{from_be_bytes, w64}
use Rattle.c8_digest.specs.Reading.{row_at}
use Rattle.c8_digest.proofs.ReadLemmas.{set_next}
use Rattle.c8_digest.proofs.reading.rows_in.Goals as goal

pub loop-y-preserved : goal.loop-y-preserved
unfolding row_at
loop-y-preserved c = record {
  size = omega (arith, length-set c.loop-y.rows c.loop-y.y c.from_be_bytes.result, c.loop-y.invariant.size);
  items =
      set_next (row_at c.args.bytes.now) c.loop-y.rows c.loop-y.y c.from_be_bytes.result
      (omega (arith, c.loop-y-test.true, c.loop-y.invariant.size)) c.loop-y.invariant.items
      (c.from_be_bytes.ensures ∙ ap (from_be_bytes w64) c.part_at.ensures);
}
