-- The number of return addresses and the first `n` places of the stack are appended.
use Rattle.std.proofs.Common.{◌≡◌, ◌+◌, [], ◌∷◌, ◌++◌, length, take, ◌*◌}
use Rattle.std.specs.List.{flat_map}
use Rattle.std.specs.Int.{to_be_bytes, w16}
use Rattle.arrayvec.specs.ArrayVec.{array_vec_len}
use Rattle.c8_digest.specs.StateBytes.{places}
use Rattle.c8_digest.proofs.digest.put_stack.Given as goal

abbrev pub invariant-loop-n : goal.invariant-loop-n
invariant-loop-n l = record {
  items : l.out.items ≡ l.fn.out.items ++ (length l.fn.stack ∷ []) ++ flat_map (to_be_bytes w16) (take l.n (places l.fn.stack));
  size : array_vec_len l.out ≡ array_vec_len l.fn.out + 1 + 2 * l.n;
}
