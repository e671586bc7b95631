-- The state that bytes spell, each part read at its place.
use Rattle.std.specs.Prelude.{ℕ, ◌+◌, ◌*◌, ◌==◌, ◌&&◌, false, nat_lt, List, map, take, drop, slice_index, Option, Some, None, if◌then◌else◌}
use Rattle.std.specs.List.{range_with_len}
use Rattle.std.specs.Int.{from_be_bytes, w16, w64}
use Rattle.c8_screen.specs.Points.{Points, width, height, row_has}
use Rattle.c8_machine.specs.declared.machine.Stop.{Stop}
use Rattle.c8_machine.specs.declared.machine.Stop.TheVariants.{UnknownInstruction, StackFull, StackEmpty}
use Rattle.c8_machine.specs.State.{State}

-- n bytes from a place on
abbrev pub part_at : ℕ → ℕ → List ℕ → List ℕ
part_at place n bytes = take n (drop place bytes)

-- place k of the stack, and row y of the screen
unfoldable pub place_at : List ℕ → ℕ → ℕ
place_at bytes k = from_be_bytes w16 (part_at (4117 + 2 * k) 2 bytes)

unfoldable pub row_at : List ℕ → ℕ → ℕ
row_at bytes y = from_be_bytes w64 (part_at (4149 + 8 * y) 8 bytes)

-- the register that waits: any byte but FF (hexadecimal); the stop: 1 to 3, any other byte is none
abbrev pub waits_in : ℕ → Option ℕ
waits_in byte = if byte == 0xFF then None else Some byte

abbrev pub stop_in : ℕ → Option Stop
stop_in byte = if byte == 1 then Some UnknownInstruction else (if byte == 2 then Some StackFull else (if byte == 3 then Some StackEmpty else None))

abbrev pub screen_in : List ℕ → Points
screen_in bytes x y = if nat_lt x width && nat_lt y height then row_has (row_at bytes y) x else false

-- The state from which these bytes were written (`states_are_read_again` of `src/laws.rt`). For other bytes it means
-- nothing.
unfoldable pub state_in : List ℕ → State
state_in bytes = record {
  memory = slice_index (part_at 0 4096 bytes);
  registers = part_at 4096 16 bytes;
  address = from_be_bytes w16 (part_at 4112 2 bytes);
  counter = from_be_bytes w16 (part_at 4114 2 bytes);
  stack = map (place_at bytes) (range_with_len 0 (slice_index bytes 4116));
  screen = screen_in bytes;
  timer = slice_index bytes 4405;
  tone = slice_index bytes 4406;
  keys = from_be_bytes w16 (part_at 4407 2 bytes);
  waits = waits_in (slice_index bytes 4409);
  draws = from_be_bytes w64 (part_at 4410 8 bytes);
  stop = stop_in (slice_index bytes 4418);
}
