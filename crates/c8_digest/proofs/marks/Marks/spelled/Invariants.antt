-- The bytes of the first `n` marks are appended, 8 of each.
use Rattle.std.proofs.Common.{◌≡◌, ◌*◌, take}
use Rattle.std.specs.List.{flat_map}
use Rattle.arrayvec.specs.ArrayVec.{array_vec_len}
use Rattle.c8_digest.proofs.marks.Marks.spelled.Given as goal

abbrev pub invariant-loop-n : goal.invariant-loop-n
invariant-loop-n l = record {
  items : l.bytes.items ≡ flat_map (λ m. m.mark) (take l.n l.fn.self);
  size : array_vec_len l.bytes ≡ 8 * l.n;
}
