-- A log over a disk, and what its calls leave on the disk.
use Rattle.std.specs.Prelude.{◌≡◌, ◌<◌, ◌⊎◌, ℕ, ◌+◌, ◌*◌, ◌^◌, ◌==◌, nat_lt, ◌&&◌, not, if◌then◌else◌, Bool, true, false, List, [], ◌∷◌}
use Rattle.std.specs.Prelude.{◌++◌, length, slice_index, Contains, Result, Ok, Err}
use Rattle.c8_disk.specs.Disk.{overwritten, Only, Torn}
use Rattle.c8_disk.specs.declared.disk.Disk.{Ghosts}
use Rattle.c8_disk.specs.declared.error.DiskError.{DiskError}
use Rattle.c8_disk.specs.declared.error.DiskError.TheVariants.{Failed as DiskFailed, Full as DiskFull}
use Rattle.c8_log.specs.declared.error.LogError.{LogError}
use Rattle.c8_log.specs.declared.error.LogError.TheVariants.{Failed, Full, Down}
use Rattle.c8_log.specs.Slots.{slot_length, open_gate, closed_gate, kept_count, kept}

-- A log: its disk, how many bodies it counts (those found by its opening, and one for each append that
-- returned Ok), and whether it is down. If it is down, its disk may keep one body more than it counts.
-- If it is up, it is at rest.
pub record LogValue (D : Type 0) : Type 0 where
  pub disk : D
  pub count : ℕ
  pub down : Bool

-- turns a refusal of the disk into one of the log
abbrev pub log_error : DiskError → LogError
log_error DiskFailed = Failed
log_error DiskFull = Full

-- each image keeps these bodies
abbrev pub AllKeep : List (List ℕ) → (List ℕ → Type 0) → Type 0
AllKeep bodies images = (image : List ℕ) → images image → kept image ≡ bodies

-- the image keeps the bodies that one of these images keeps
abbrev pub KeepsOneOf : (List ℕ → Type 0) → List ℕ → Type 0
KeepsOneOf images image = (old : List ℕ) × images old × (kept image ≡ kept old)

-- the image keeps these bodies, with this one after them or without
abbrev pub KeepsWithOrWithout : List (List ℕ) → List ℕ → List ℕ → Type 0
KeepsWithOrWithout bodies body image = (kept image ≡ bodies) ⊎ (kept image ≡ bodies ++ body ∷ [])

-- the gate of slot n exists and is closed
abbrev pub has_closed_gate_at : List ℕ → ℕ → Bool
has_closed_gate_at image n = nat_lt (slot_length * n) (length image) && not (slice_index image (slot_length * n) == open_gate)

-- so does the gate after the kept bodies
abbrev pub has_closed_gate : List ℕ → Bool
has_closed_gate image = has_closed_gate_at image (kept_count image)

-- the image with a closed gate after its kept bodies
abbrev pub repaired : List ℕ → List ℕ
repaired image = if has_closed_gate image then image else overwritten image (slot_length * kept_count image) (closed_gate ∷ [])

-- the image with this body in slot n, its gate open, and a closed gate after it
abbrev pub with_slot : List ℕ → ℕ → List ℕ → List ℕ
with_slot image n body = overwritten image (slot_length * n) (open_gate ∷ (body ++ closed_gate ∷ []))

-- the image with this body after the gate of slot n, and a closed gate after the body; the slot's own
-- gate does not change
abbrev pub with_body : List ℕ → ℕ → List ℕ → List ℕ
with_body image n body = overwritten image (slot_length * n + 1) (body ++ closed_gate ∷ [])

-- The bytes after a failed append to slot n. Either the old ones, torn from after the slot's gate to the
-- end of the next gate; or those with the body and a closed gate there, and the slot's own gate torn.
abbrev pub IsLeftByAppend : ℕ → List ℕ → List ℕ → List ℕ → Type 0
IsLeftByAppend n body old new = Torn (slot_length * n + 1) slot_length old new ⊎ Torn (slot_length * n) 1 (with_body old n body) new

-- the disk after an opening; a refused one returns it
abbrev pub disk_after : {D : Type 0} → Result (LogValue D) (LogError × D) → D
disk_after (Ok log) = log.disk
disk_after (Err refusal) = refusal.1

-- The bytes after a refused opening: the old ones; or, if the disk failed and the gate after the kept
-- bodies was missing or open, the old ones with that gate torn.
abbrev pub IsLeftByOpening : LogError → List ℕ → List ℕ → Type 0
IsLeftByOpening Failed old new = (new ≡ old) ⊎ ((has_closed_gate old ≡ false) × Torn (slot_length * kept_count old) 1 old new)
IsLeftByOpening Full old new = new ≡ old
IsLeftByOpening Down old new = ⊥

module _ {D : Type 0} (g : Ghosts D) where
  -- The log counts the kept bodies of a read, and each image that a crash may leave now keeps the same
  -- bodies. Bytes after the closed gate are not bodies, and may differ.
  pub record IsAtRest (log : LogValue D) : Type 0 where
    pub count : log.count ≡ length (kept (g.seen log.disk))
    pub durable : AllKeep (kept (g.seen log.disk)) (g.may_leave log.disk)

  -- The disk of a log that is up: `count` is the number of kept bodies in a read, the gate after them is
  -- closed, and all of it is synced.
  pub record IsUp (disk : D) (count : ℕ) : Type 0 where
    pub count_is : count ≡ kept_count (g.seen disk)
    pub closed : has_closed_gate (g.seen disk) ≡ true
    pub durable : Only (g.seen disk) (g.may_leave disk)
    pub fits : slot_length * count + 1 < 2 ^ 32

  -- each image that a crash since t may have left keeps one of these lists of bodies
  abbrev pub SinceKeeps : D → ℕ → List (List (List ℕ)) → Type 0
  SinceKeeps disk t lists = (image : List ℕ) → g.left_since disk t image → Contains lists (kept image)

  -- what holds for every log
  abbrev pub IsLog : LogValue D → Type 0
  IsLog log = log.down ≡ false → IsUp log.disk log.count
