-- The first `k` places of the stack are those in the bytes.
use Rattle.std.proofs.Common.{◌≡◌, ℕ, ◌<◌, length}
use Rattle.std.specs.Prelude.{slice_index}
use Rattle.c8_digest.specs.Reading.{place_at}
use Rattle.c8_digest.proofs.reading.places_in.Given as goal

abbrev pub invariant-loop-k : goal.invariant-loop-k
invariant-loop-k l = record {
  size : length l.places ≡ 16;
  items : (k : ℕ) → k < l.k → slice_index l.places k ≡ place_at l.fn.bytes k;
}
