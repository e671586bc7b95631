-- What the calls of a disk do to its bytes, and what a crash may leave of them.
use Rattle.std.specs.Prelude.{◌≡◌, ◌<◌, ◌≤◌, ◌⊎◌, ℕ, ◌+◌, max, List, ◌++◌, length, take, drop, Result, Ok, Err, IsErrOf}
use Rattle.c8_disk.specs.declared.error.DiskError.{DiskError}
use Rattle.c8_disk.specs.declared.error.DiskError.TheVariants.{Failed, Full}

-- A call that reads, writes or syncs, and its answer.
pub data DiskCall : Type 0 where
  Reading : (at count : ℕ) → Result (Unit {0}) DiskError → DiskCall
  Writing : (at : ℕ) → (bytes : List ℕ) → Result (Unit {0}) DiskError → DiskCall
  Syncing : Result (Unit {0}) DiskError → DiskCall

-- the most bytes of one write
abbrev pub longest_write : ℕ
longest_write = 144

-- the bytes after these were written over them at this place
abbrev pub overwritten : List ℕ → ℕ → List ℕ → List ℕ
overwritten old at bytes = take at old ++ bytes ++ drop (at + length bytes) old

-- A torn write of `count` bytes: any bytes in the range and past the old end, any length from the old one to that of
-- the whole write, and the same bytes elsewhere.
pub record Torn (at count : ℕ) (old new : List ℕ) : Type 0 where
  pub before : take at new ≡ take at old
  pub after : drop (at + count) new ≡ drop (at + count) old
  pub no_shorter : length old ≤ length new
  pub no_longer : length new ≤ max (length old) (at + count)

-- The bytes after a whole write: the written bytes, and the same as before on both sides.
pub record IsOverwritten (at : ℕ) (bytes old new : List ℕ) : Type 0 where
  pub before : take at new ≡ take at old
  pub here : drop at new ≡ bytes ++ drop (at + length bytes) old
  pub size : length new ≡ max (length old) (at + length bytes)
  pub torn : Torn at (length bytes) old new

-- each new image is an old one
abbrev pub AddsNone : (List ℕ → Type 0) → (List ℕ → Type 0) → Type 0
AddsNone old new = (image : List ℕ) → new image → old image

-- each new image is an old one after a torn write
abbrev pub Tears : ℕ → ℕ → (List ℕ → Type 0) → (List ℕ → Type 0) → Type 0
Tears at count old new = (image : List ℕ) → new image → (earlier : List ℕ) × old earlier × Torn at count earlier image

-- these bytes are the only image
abbrev pub Only : List ℕ → (List ℕ → Type 0) → Type 0
Only bytes images = (image : List ℕ) → images image → image ≡ bytes

-- what a read gives after a write: a failed write may be torn, and a full disk writes nothing
abbrev pub Writes : ℕ → List ℕ → List ℕ → List ℕ → Result (Unit {0}) DiskError → Type 0
Writes at bytes old new (Ok _) = new ≡ overwritten old at bytes
Writes at bytes old new (Err Failed) = Torn at (length bytes) old new
Writes at bytes old new (Err Full) = new ≡ old

-- what a crash may leave after a write: until a sync it counts as torn, even if it failed
abbrev pub WritesImages : ℕ → ℕ → (List ℕ → Type 0) → (List ℕ → Type 0) → Result (Unit {0}) DiskError → Type 0
WritesImages at count old new (Ok _) = Tears at count old new
WritesImages at count old new (Err Failed) = Tears at count old new
WritesImages at count old new (Err Full) = AddsNone old new

-- Time goes on: a crash since t might have left what it might have left before, or what it may leave now.
pub record Elapses (before now : ℕ) (past since : ℕ → List ℕ → Type 0) (may_leave : List ℕ → Type 0) : Type 0 where
  pub later : before ≤ now
  pub nothing_else : (t : ℕ) (image : List ℕ) → t ≤ before → since t image → past t image ⊎ may_leave image
  pub keeps : (t : ℕ) (image : List ℕ) → t ≤ before → past t image → since t image

-- A call answers `Failed` exactly if the disk failed in it.
pub record HasCause {T : Type 0} (failures now : ℕ) (result : Result T DiskError) : Type 0 where
  pub no_fewer : failures ≤ now
  pub failed : IsErrOf result Failed → failures < now
  pub unfailed : (IsErrOf result Failed → ⊥) → now ≡ failures
