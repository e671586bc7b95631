-- Checked, not believed: parts that are read from a state's bytes.
use Rattle.std.specs.Prelude.{◌≡◌, ℕ, ◌<◌, List, slice_index}
use Rattle.std.specs.Int.{from_be_bytes, w16, w64}
use Rattle.c8_screen.specs.Points.{points_of}
use Rattle.c8_machine.specs.declared.machine.parts.Parts.{Parts}
use Rattle.c8_digest.specs.Reading.{part_at, place_at, waits_in, stop_in, screen_in}

-- each part is what the bytes have at its place
pub record AreRead (bytes : List ℕ) (p : Parts) : Type 0 where
  pub memory : p.memory ≡ part_at 0 4096 bytes
  pub registers : p.registers ≡ part_at 4096 16 bytes
  pub address : p.address ≡ from_be_bytes w16 (part_at 4112 2 bytes)
  pub counter : p.counter ≡ from_be_bytes w16 (part_at 4114 2 bytes)
  pub depth : p.depth ≡ slice_index bytes 4116
  pub places : (k : ℕ) → k < 16 → slice_index p.places k ≡ place_at bytes k
  pub screen : (x y : ℕ) → points_of p.screen x y ≡ screen_in bytes x y
  pub timer : p.timer ≡ slice_index bytes 4405
  pub tone : p.tone ≡ slice_index bytes 4406
  pub keys : p.keys.0 ≡ from_be_bytes w16 (part_at 4407 2 bytes)
  pub waits : p.waits ≡ waits_in (slice_index bytes 4409)
  pub draws : p.draws ≡ from_be_bytes w64 (part_at 4410 8 bytes)
  pub stop : p.stop ≡ stop_in (slice_index bytes 4418)
