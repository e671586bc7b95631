-- The bytes of a row of the screen are those of the number that its columns spell.
use Rattle.std.proofs.Common.{List, ℕ, ◌++◌, ap, ◌∙◌, length, arith}
use Rattle.std.specs.List.{flat_map, range_with_len}
use Rattle.std.specs.Int.{to_be_bytes, w64}
use Rattle.c8_screen.specs.Points.{points_of}
use Rattle.c8_digest.specs.StateBytes.{columns}
use Rattle.c8_digest.proofs.ScreenLemmas.{rows_more}
use Rattle.c8_digest.proofs.digest.put_screen.Goals as goal

pub loop-y-preserved : goal.loop-y-preserved
loop-y-preserved c =
    let y : ℕ = c.loop-y.y in
    let rows : ℕ → List ℕ = λ k. to_be_bytes w64 (columns (points_of c.args.screen.now) k 64) in
    record {
      items = c.put.ensures.bytes ∙ ap (λ (items : List ℕ). items ++ c.row_bytes.result) c.loop-y.invariant.items
          ∙ ap (λ (last : List ℕ). (c.args.out.now.items ++ flat_map rows (range_with_len 0 y)) ++ last) c.row_bytes.ensures.bytes
          ∙ rows_more (points_of c.args.screen.now) c.args.out.now.items y c.row.result.now c.row_bytes.ensures.fits c.row.ensures;
      size = omega (arith, c.put.ensures.size, c.loop-y.invariant.size, ap length c.row_bytes.ensures.bytes);
    }
