-- Each part is the number or the bytes at its place, and the screen is lit where its rows have a bit.
use Rattle.std.proofs.Common.{refl, ap, ◌∙◌}
use Rattle.std.specs.Int.{from_be_bytes, w16, w64}
use Rattle.c8_digest.proofs.ReadLemmas.{screen_read}
use Rattle.c8_digest.proofs.reading.parts_in.Goals as goal

pub returns : goal.returns
returns c = record {
  memory = c.part_at.ensures;
  registers = c.part_at-2.ensures;
  address = c.from_be_bytes.ensures ∙ ap (from_be_bytes w16) c.part_at-3.ensures;
  counter = c.from_be_bytes-2.ensures ∙ ap (from_be_bytes w16) c.part_at-4.ensures;
  depth = refl;
  places = c.places_in.ensures;
  screen = screen_read c.args.bytes.now c.rows_in.result c.of_rows.result c.of_rows.ensures c.rows_in.ensures;
  timer = refl;
  tone = refl;
  keys = c.from_be_bytes-3.ensures ∙ ap (from_be_bytes w16) c.part_at-5.ensures;
  waits = c.waits_in.ensures;
  draws = c.from_be_bytes-4.ensures ∙ ap (from_be_bytes w64) c.part_at-6.ensures;
  stop = c.stop_in.ensures;
}
