-- When frames are due, and how late they were. Times are in nanoseconds.
use Rattle.std.specs.Prelude.{◌≡◌, ◌<◌, ◌≤◌, ℕ, ◌+◌, ◌-◌, ◌*◌, ◌/◌, min, max, List, set, slice_index, sum, take}
use Rattle.std.specs.Duration.{as_nanos}
use Rattle.c8_terminal.specs.declared.beat.Beat.{Beat}
use Rattle.c8_terminal.specs.declared.beat.Lateness.{Lateness}

-- ---- when frames are due

-- A clock: the frames due a second, the time of the first frame, and how many have begun since.
pub record ClockValue : Type 0 where
  pub rate : ℕ
  pub start : ℕ
  pub begun : ℕ

-- how a caller sees a clock
abbrev pub clock_of : Beat → ClockValue
clock_of beat = record { rate = beat.rate; start = as_nanos beat.start; begun = beat.begun }

-- when a frame is due: number / rate seconds after the start; the frame at the start has the number 0
abbrev pub due : ClockValue → ℕ → ℕ
due clock frame = clock.start + frame * 1_000_000_000 / clock.rate

-- how long it is until the next frame is due
abbrev pub left : ClockValue → ℕ → ℕ
left clock now = due clock clock.begun - now

-- how late a frame is that begins now
abbrev pub late : ClockValue → ℕ → ℕ
late clock now = now - due clock clock.begun

-- the time at which the next frame is late by five frames
abbrev pub latest : ClockValue → ℕ
latest clock = due clock (clock.begun + 5)

-- the clock that starts again with the frame that begins
abbrev pub started_anew : ClockValue → ℕ → ClockValue
started_anew clock now = record { rate = clock.rate; start = now; begun = 1 }

-- the clock after one more frame; it counts up to 2 ^ 64 - 1
abbrev pub one_more : ClockValue → ClockValue
one_more clock = record { rate = clock.rate; start = clock.start; begun = min (clock.begun + 1) 18_446_744_073_709_551_615 }

-- ---- how late they were

-- how many frames were late by 0, 1, 2, .. 62 whole milliseconds, and by 63 or more
abbrev pub counts_of : Lateness → List ℕ
counts_of lateness = lateness.frames

-- the greatest lateness
abbrev pub most_of : Lateness → ℕ
most_of lateness = as_nanos lateness.most

-- how late the frames of a clock were
abbrev pub lateness_of : Beat → Lateness
lateness_of beat = beat.lateness

-- the counts with one more frame at a place, up to 2 ^ 32 - 1
abbrev pub counted : List ℕ → ℕ → List ℕ
counted counts place = set counts place (min (slice_index counts place + 1) 4_294_967_295)

-- a frame was noted that was this late
pub record IsNoted (old : Lateness) (late : ℕ) (new : Lateness) : Type 0 where
  pub counts : counts_of new ≡ counted (counts_of old) (min (late / 1_000_000) 63)
  pub most : most_of new ≡ max (most_of old) late

-- at least half of the counted frames were late by at most this many whole milliseconds
abbrev pub IsHalf : List ℕ → ℕ → Type 0
IsHalf counts millis = sum counts ≤ 2 * sum (take (millis + 1) counts)

-- the least such number of milliseconds
pub record IsMedian (counts : List ℕ) (millis : ℕ) : Type 0 where
  pub half : IsHalf counts millis
  pub least : (fewer : ℕ) → fewer < millis → IsHalf counts fewer → ⊥
