-- What an image of a disk keeps. Slot n begins at byte slot_length * n. It is a gate and a body.
use Rattle.std.specs.Prelude.{◌≡◌, ◌<◌, ℕ, zero, suc, min, ◌+◌, ◌-◌, ◌*◌, ◌/◌, nat_le, nat_lt, ◌==◌, ◌&&◌, ◌||◌, not, if◌then◌else◌, Bool}
use Rattle.std.specs.Prelude.{false, true, List, [], ◌∷◌, ◌++◌, length, take, drop, slice_index}

abbrev pub slot_length : ℕ
slot_length = 144

abbrev pub body_length : ℕ
body_length = 143

-- a block is this many slots, read at once
abbrev pub block_slots : ℕ
block_slots = 32

abbrev pub block_length : ℕ
block_length = 4608

-- how many blocks contain this many slots
abbrev pub blocks_of : ℕ → ℕ
blocks_of n = (n + 31) / block_slots

-- how many slots a read from slot n on gives, if there are `count`
abbrev pub slots_from : ℕ → ℕ → ℕ
slots_from n count = min (count - n) block_slots

-- any other gate is closed; the closed gate below is the one that is written
abbrev pub open_gate : ℕ
open_gate = 0xa5

abbrev pub closed_gate : ℕ
closed_gate = 0

-- the slot is whole and its gate is open
abbrev pub is_open : List ℕ → ℕ → Bool
is_open image n = nat_le (slot_length * n + slot_length) (length image) && (slice_index image (slot_length * n) == open_gate)

-- the bytes after a slot's gate
abbrev pub body_of : List ℕ → ℕ → List ℕ
body_of image n = take body_length (drop (slot_length * n + 1) image)

-- the least number below the bound that passes the test, or the bound if none does
abbrev pub least : (ℕ → Bool) → ℕ → ℕ
least passes zero = zero
least passes (suc bound) = if nat_lt (least passes bound) bound || passes bound then least passes bound else suc bound

-- the least slot that is not whole or not open; slot number `length image` is never whole
unfoldable pub kept_count : List ℕ → ℕ
kept_count image = least (λ n. not (is_open image n)) (length image)

-- the bodies of the first slots
abbrev pub first_bodies : List ℕ → ℕ → List (List ℕ)
first_bodies image zero = []
first_bodies image (suc n) = first_bodies image n ++ body_of image n ∷ []

-- the kept bodies: those of the slots before the first that is not whole or not open
unfoldable pub kept : List ℕ → List (List ℕ)
kept image = first_bodies image (kept_count image)

-- The same as a relation: the slots of these bodies are open and have them, and the next slot is not
-- open.
pub record IsKept (image : List ℕ) (bodies : List (List ℕ)) : Type 0 where
  pub each : (n : ℕ) → n < length bodies → is_open image n ≡ true
  pub same : bodies ≡ first_bodies image (length bodies)
  pub next : is_open image (length bodies) ≡ false
