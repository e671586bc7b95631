-- What a disk in a file shows.
use Rattle.std.specs.Prelude.{◌≡◌, ◌↔◌, ℕ, Bool, true, List, [], ◌∷◌, ◌++◌, length, Result, IsErrOf}
use Rattle.c8_disk.specs.declared.call.Call.{Call}
use Rattle.c8_disk.specs.declared.disk.Arm.{Arm}
use Rattle.c8_disk.specs.declared.file.FileDisk.{FileDisk}
use Rattle.c8_disk.specs.declared.file.held.Held.{Held}
use Rattle.c8_disk.specs.declared.error.DiskError.{DiskError}
use Rattle.c8_disk.specs.declared.error.DiskError.TheVariants.{Failed}
use Rattle.c8_disk.specs.Disk.{DiskCall, Reading, Writing, Syncing}
use Rattle.c8_disk.specs.Past.{IsImage, LeftSince}

-- The images that a crash may leave now; the moment, which is how many writes and syncs are noted; and the images that
-- a crash at some moment since may have left.
abbrev pub images : Held → List ℕ → Type 0
images held = IsImage held.first.value.items held.calls.items

abbrev pub moment : Held → ℕ
moment held = length held.calls.items

abbrev pub left_since : Held → ℕ → List ℕ → Type 0
left_since held = LeftSince held.first.value.items held.calls.items

module _ {S : Type 0} where
  -- what a read gives
  abbrev pub file_bytes : FileDisk S → List ℕ
  file_bytes disk = disk.held.bytes.items

  -- what it held when it was opened, and each noted call since: all that determines what a crash may leave
  abbrev pub file_first : FileDisk S → List ℕ
  file_first disk = disk.held.first.value.items

  abbrev pub file_calls : FileDisk S → List Call
  file_calls disk = disk.held.calls.items

  abbrev pub file_images : FileDisk S → List ℕ → Type 0
  file_images disk = images disk.held

  abbrev pub file_moment : FileDisk S → ℕ
  file_moment disk = moment disk.held

  abbrev pub file_left_since : FileDisk S → ℕ → List ℕ → Type 0
  file_left_since disk = left_since disk.held

  abbrev pub file_room : FileDisk S → ℕ
  file_room disk = disk.held.room

  -- a call has failed since it was opened
  abbrev pub file_is_down : FileDisk S → Bool
  file_is_down disk = disk.health.is_down

  abbrev pub file_failures : FileDisk S → ℕ
  file_failures disk = length disk.health.failures.items

  -- how many calls were to write or sync since it was opened, refused ones too
  abbrev pub file_changes : FileDisk S → ℕ
  file_changes disk = length disk.asked.items

  -- the values given to `arm`, oldest first
  abbrev pub file_arms : FileDisk S → List Arm
  file_arms disk = disk.arms.items

  -- after a call with this answer: it is still the file that was opened, and it is down exactly if the call failed; a
  -- read takes no disk down
  abbrev pub IsFileAfter : FileDisk S → Result (Unit {0}) DiskError → FileDisk S → Type 0
  IsFileAfter old result new = (file_first new ≡ file_first old) × (IsErrOf result Failed ↔ (file_is_down new ≡ true))

  abbrev pub IsFileCall : FileDisk S → DiskCall → FileDisk S → Type 0
  IsFileCall old (Reading at count result) new = IsFileAfter old result new × (file_is_down new ≡ file_is_down old)
  IsFileCall old (Writing at bytes result) new = IsFileAfter old result new
  IsFileCall old (Syncing result) new = IsFileAfter old result new

  -- after `arm`, which only notes the value
  abbrev pub IsFileTold : FileDisk S → Arm → FileDisk S → Type 0
  IsFileTold old arm new =
      (file_bytes new ≡ file_bytes old) × (file_first new ≡ file_first old) × (file_calls new ≡ file_calls old)
      × (file_is_down new ≡ file_is_down old) × (file_arms new ≡ file_arms old ++ arm ∷ [])
