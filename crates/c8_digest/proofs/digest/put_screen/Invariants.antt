-- The rows above `y` are appended, 8 bytes each.
use Rattle.std.proofs.Common.{◌≡◌, ◌+◌, ◌++◌, ◌*◌}
use Rattle.std.specs.List.{flat_map, range_with_len}
use Rattle.std.specs.Int.{to_be_bytes, w64}
use Rattle.arrayvec.specs.ArrayVec.{array_vec_len}
use Rattle.c8_screen.specs.Points.{points_of}
use Rattle.c8_digest.specs.StateBytes.{columns}
use Rattle.c8_digest.proofs.digest.put_screen.Given as goal

abbrev pub invariant-loop-y : goal.invariant-loop-y
invariant-loop-y l = record {
  items : l.out.items ≡ l.fn.out.items ++ flat_map (λ k. to_be_bytes w64 (columns (points_of l.fn.screen) k 64)) (range_with_len 0 l.y);
  size : array_vec_len l.out ≡ array_vec_len l.fn.out + 8 * l.y;
}
