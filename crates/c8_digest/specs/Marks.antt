-- Kept marks, each with the number of frames after which the machine had it; and their bytes.
use Rattle.std.specs.Prelude.{◌≡◌, ◌≢◌, ◌<◌, ℕ, ◌+◌, ◌-◌, ◌*◌, ◌/◌, ◌^◌, min, ◌==◌, Bool, List, ◌++◌, length, map, take, drop, replicate}
use Rattle.std.specs.Prelude.{fold, slice_index, Option, Some, None, if◌then◌else◌}
use Rattle.std.specs.List.{slice_get, flat_map, list_all, range_with_len}
use Rattle.c8_digest.specs.declared.marks.FrameMark.{FrameMark}

-- the number of frames from one mark to the next; the first mark is before the first frame
abbrev pub mark_step : ℕ
mark_step = 32

abbrev pub mark_length : ℕ
mark_length = 8

-- the most marks that are kept
abbrev pub most_marks : ℕ
most_marks = 16

-- the last sixteen marks of those that were put, oldest first
abbrev pub kept : List FrameMark → List FrameMark
kept put = drop (length put - most_marks) put

-- the last mark that was put for a frame
unfoldable pub mark_at : ℕ → List FrameMark → Option (List ℕ)
mark_at frame marks = fold (λ found m. if m.frame == frame then Some m.mark else found) None marks

-- the last mark that was put
abbrev pub newest_of : List FrameMark → Option FrameMark
newest_of marks = slice_get marks (length marks - 1)

-- no mark after this place is of this frame
abbrev pub IsLastFor : List FrameMark → ℕ → ℕ → Type 0
IsLastFor marks place frame = (later : ℕ) (m : FrameMark) → place < later → slice_get marks later ≡ Some m → m.frame ≢ frame

-- ---- marks as bytes

-- after some number of frames: how many marks are kept, and how many were dropped before
abbrev pub marks_after : ℕ → ℕ
marks_after frames = min most_marks (frames / mark_step + 1)

abbrev pub forgotten_after : ℕ → ℕ
forgotten_after frames = frames / mark_step + 1 - marks_after frames

-- the size of sixteen marks in bytes
abbrev pub marks_length : ℕ
marks_length = 128

-- the marks one after the other, oldest first, then zeros
unfoldable pub marks_bytes : List FrameMark → List ℕ
marks_bytes marks = flat_map (λ m. m.mark) marks ++ replicate (marks_length - mark_length * length marks) 0

-- the marks with these bytes, as they are kept after some number of frames
unfoldable pub marks_in : ℕ → List ℕ → List FrameMark
marks_in frames bytes =
    map (λ k. record { frame = mark_step * (forgotten_after frames + k); mark = take mark_length (drop (mark_length * k) bytes) })
    (range_with_len 0 (marks_after frames))

-- the bytes after the marks that are kept after some number of frames are zeros
abbrev pub are_marks : ℕ → List ℕ → Bool
are_marks frames bytes = list_all (λ byte. byte == 0) (drop (mark_length * marks_after frames) bytes)

-- a mark of this frame, eight bytes
pub record IsMarkAt (frame : ℕ) (m : FrameMark) : Type 0 where
  pub frame_is : m.frame ≡ frame
  pub long : length m.mark ≡ mark_length
  pub bytes : (i : ℕ) → slice_index m.mark i < 2 ^ 8

-- The marks kept after some number of frames: those of the last multiples of 32, oldest first.
pub record AreMarksAfter (frames : ℕ) (marks : List FrameMark) : Type 0 where
  pub count : length marks ≡ marks_after frames
  pub each : (k : ℕ) (m : FrameMark) → slice_get marks k ≡ Some m → IsMarkAt (mark_step * (forgotten_after frames + k)) m
