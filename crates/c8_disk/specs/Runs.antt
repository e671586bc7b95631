-- Runs of calls of a disk, in terms of the trait `Disk`.
use Rattle.std.specs.Prelude.{◌≡◌, ◌≤◌, ◌⊎◌, ℕ, List, [], ◌∷◌}
use Rattle.c8_disk.specs.Disk.{AddsNone, DiskCall}
use Rattle.c8_disk.specs.declared.disk.Disk.{Ghosts}

-- A crash at any moment of the run leaves an image with property P.
pub record LeavesOnly {D : Type 0} (disk : Ghosts D) (old new : D) (P : List ℕ → Type 0) : Type 0 where
  pub later : disk.moment old ≤ disk.moment new
  pub each : (image : List ℕ) → disk.left_since new (disk.moment old) image → P image
  -- the same for a run that began earlier
  pub before : (t : ℕ) (image : List ℕ) → t ≤ disk.moment old → disk.left_since new t image → disk.left_since old t image ⊎ P image

-- These calls, in order, lead from the first disk to the second.
abbrev pub Leads : {D : Type 0} → Ghosts D → List DiskCall → D → D → Type 0
Leads disk [] old new = new ≡ old
Leads {D} disk (call ∷ calls) old new = (mid : D) × disk.does old call mid × Leads disk calls mid new

-- It is the same disk: the same capacity, the same failures armed, and failures counted on.
pub record IsSameDisk {D : Type 0} (disk : Ghosts D) (old new : D) : Type 0 where
  pub capacity : disk.capacity new ≡ disk.capacity old
  pub arms : disk.arms new ≡ disk.arms old
  pub no_fewer : disk.failures old ≤ disk.failures new

-- The run only reads: it writes and syncs nothing, and a crash leaves nothing that it could not have left before.
pub record ReadsOnly {D : Type 0} (disk : Ghosts D) (old new : D) : Type 0 where
  pub seen : disk.seen new ≡ disk.seen old
  pub crash : AddsNone (disk.may_leave old) (disk.may_leave new)
  pub any_moment : LeavesOnly disk old new (disk.may_leave old)
  pub changes : disk.changes new ≡ disk.changes old
  pub same : IsSameDisk disk old new
