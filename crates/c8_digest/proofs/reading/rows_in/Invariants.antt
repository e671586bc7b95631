-- The first `y` rows of the screen are those in the bytes.
use Rattle.std.proofs.Common.{◌≡◌, ℕ, ◌<◌, length}
use Rattle.std.specs.Prelude.{slice_index}
use Rattle.c8_digest.specs.Reading.{row_at}
use Rattle.c8_digest.proofs.reading.rows_in.Given as goal

abbrev pub invariant-loop-y : goal.invariant-loop-y
invariant-loop-y l = record {
  size : length l.rows ≡ 32;
  items : (y : ℕ) → y < l.y → slice_index l.rows y ≡ row_at l.fn.bytes y;
}
