-- Place `k` of the stack is read from its two bytes, and the places before it stay.
use Rattle.std.proofs.Common.{ap, ◌∙◌, arith}
use Rattle.std.proofs.lemmas.List.{length-set}
use Rattle.std.specs.Int.{from_be_bytes, w16}
use Rattle.c8_digest.specs.Reading.{place_at}
use Rattle.c8_digest.proofs.ReadLemmas.{set_next}
use Rattle.c8_digest.proofs.reading.places_in.Goals as goal

pub loop-k-preserved : goal.loop-k-preserved
unfolding place_at
loop-k-preserved c = record {
  size = omega (arith, length-set c.loop-k.places c.loop-k.k c.from_be_bytes.result, c.loop-k.invariant.size);
  items =
      set_next (place_at c.args.bytes.now) c.loop-k.places c.loop-k.k c.from_be_bytes.result
      (omega (arith, c.loop-k-test.true, c.loop-k.invariant.size)) c.loop-k.invariant.items
      (c.from_be_bytes.ensures ∙ ap (from_be_bytes w16) c.part_at.ensures);
}
