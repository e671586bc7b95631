-- A machine's state as bytes, and the mark of a state.
use Rattle.std.specs.Prelude.{ℕ, zero, suc, ◌+◌, ◌-◌, ◌*◌, List, [], ◌∷◌, ◌++◌, length, map, take, replicate, Option, Some, None, if◌then◌else◌}
use Rattle.std.specs.List.{flat_map, range_with_len}
use Rattle.std.specs.Int.{to_be_bytes, w16, w64}
use Rattle.sha2.specs.Sha256.{sha256}
use Rattle.c8_screen.specs.Points.{Points, width, height}
use Rattle.c8_machine.specs.declared.machine.Stop.{Stop}
use Rattle.c8_machine.specs.State.{State, memory_size, stack_size, number_of}

-- the size of a state in bytes
abbrev pub state_length : ℕ
state_length = 4419

-- the number whose binary digits are the points of row y in the columns before x, the leftmost first
unfoldable pub columns : Points → ℕ → ℕ → ℕ
columns points y zero = 0
columns points y (suc x) = 2 * columns points y x + (if points x y then 1 else 0)

-- the rows from the uppermost on, 8 bytes each
abbrev pub screen_bytes : Points → List ℕ
screen_bytes points = flat_map (λ y. to_be_bytes w64 (columns points y width)) (range_with_len 0 height)

-- the return addresses, oldest first, and 0 for each that is not in use
abbrev pub places : List ℕ → List ℕ
places stack = stack ++ replicate (stack_size - length stack) 0

-- the register that waits, or FF (hexadecimal)
abbrev pub waits_byte : Option ℕ → ℕ
waits_byte None = 0xFF
waits_byte (Some x) = x

-- the number of a stop, or 0
abbrev pub stop_byte : Option Stop → ℕ
stop_byte None = 0
stop_byte (Some stop) = number_of stop

-- the timer, the tone, the remembered keys, the register that waits, the draws and the stop
abbrev pub rest_bytes : State → List ℕ
rest_bytes s = s.timer ∷ s.tone ∷ (to_be_bytes w16 s.keys ++ (waits_byte s.waits ∷ (to_be_bytes w64 s.draws ++ (stop_byte s.stop ∷ []))))

-- The parts of the state in order, each number with its most significant byte first.
unfoldable pub state_bytes : State → List ℕ
state_bytes s =
    map s.memory (range_with_len 0 memory_size) ++ s.registers ++ to_be_bytes w16 s.address ++ to_be_bytes w16 s.counter
    ++ (length s.stack ∷ []) ++ flat_map (to_be_bytes w16) (places s.stack) ++ screen_bytes s.screen ++ rest_bytes s

-- the first 8 bytes of the digest of the state's bytes
abbrev pub mark_of : State → List ℕ
mark_of s = take 8 (sha256 (state_bytes s))
