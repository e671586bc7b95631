-- What a disk in memory shows, and what its calls do to that.
use Rattle.std.specs.Prelude.{◌≡◌, ◌<◌, ◌≤◌, ◌↔◌, ℕ, ◌+◌, ◌-◌, ◌==◌, ◌||◌, Bool, true, false, List, [], ◌∷◌, ◌++◌, length, Result, Ok, Err, IsErrOf}
use Rattle.c8_disk.specs.Disk.{DiskCall, Reading, Writing, Syncing, longest_write, overwritten}
use Rattle.c8_disk.specs.declared.error.DiskError.{DiskError}
use Rattle.c8_disk.specs.declared.error.DiskError.TheVariants.{Failed, Full}
use Rattle.c8_disk.specs.declared.call.Call.TheVariants.{Sync}
use Rattle.c8_disk.specs.declared.disk.Arm.TheVariants.{Off}
use Rattle.c8_disk.specs.declared.call.Call.{Call}
use Rattle.c8_disk.specs.declared.disk.Arm.{Arm}
use Rattle.c8_disk.specs.declared.mem_disk.MemDisk.{MemDisk}
use Rattle.c8_disk.specs.Past.{IsImage, LeftSince, IsWriteOf, synced}
use Rattle.c8_disk.specs.Budget.{fails_now, refuses_call, stepped, after_failure}

-- what a read gives
abbrev pub bytes_of : MemDisk → List ℕ
bytes_of disk = disk.bytes.items

-- what it held at first, and each call that wrote or synced since: all that determines what a crash may leave
abbrev pub first_of : MemDisk → List ℕ
first_of disk = disk.first.items

abbrev pub calls_of : MemDisk → List Call
calls_of disk = disk.calls.items

-- the images that a crash may leave now
abbrev pub images_of : MemDisk → List ℕ → Type 0
images_of disk = IsImage disk.first.items disk.calls.items

-- the moment: how many writes and syncs it served since it was made or since the last crash (`changes_of` counts
-- differently); and the images that a crash at some moment since may have left
abbrev pub moment_of : MemDisk → ℕ
moment_of disk = length disk.calls.items

abbrev pub left_since : MemDisk → ℕ → List ℕ → Type 0
left_since disk = LeftSince disk.first.items disk.calls.items

-- what was last synced
abbrev pub synced_of : MemDisk → List ℕ
synced_of disk = synced disk.first.items disk.calls.items

abbrev pub room_of : MemDisk → ℕ
room_of disk = disk.room

-- how many calls it still serves, and how many after a crash
abbrev pub calls_left : MemDisk → ℕ
calls_left disk = disk.budget.calls

abbrev pub calls_allowed : MemDisk → ℕ
calls_allowed disk = disk.allowed

abbrev pub arm_of : MemDisk → Arm
arm_of disk = disk.budget.arm

-- the values given to `arm` and `stop_after`, oldest first
abbrev pub arms_of : MemDisk → List Arm
arms_of disk = disk.arms.items

abbrev pub failures_of : MemDisk → ℕ
failures_of disk = length disk.budget.failures.items

-- how many calls were to write or sync since it was made, across crashes and with refused ones
abbrev pub changes_of : MemDisk → ℕ
changes_of disk = length disk.asked.items

-- its calls are spent, or a failure is armed for the next call
abbrev pub refuses_next : MemDisk → Bool
refuses_next disk = refuses_call disk.budget

-- all of this as one value
pub record MemValue : Type 0 where
  pub bytes : List ℕ
  pub first : List ℕ
  pub calls : List Call
  pub room : ℕ
  pub left : ℕ
  pub allowed : ℕ
  pub arm : Arm
  pub arms : List Arm
  pub failures : ℕ
  pub changes : ℕ

abbrev pub value_of : MemDisk → MemValue
value_of disk = record {
  bytes = bytes_of disk;
  first = first_of disk;
  calls = calls_of disk;
  room = room_of disk;
  left = calls_left disk;
  allowed = calls_allowed disk;
  arm = arm_of disk;
  arms = arms_of disk;
  failures = failures_of disk;
  changes = changes_of disk;
}

-- an empty disk
abbrev pub new_value : ℕ → ℕ → MemValue
new_value capacity calls =
    record { bytes = []; first = []; calls = []; room = capacity; left = calls; allowed = calls; arm = Off; arms = []; failures = 0; changes = 0 }

-- after a served call, and after a failed one
abbrev pub served : MemValue → MemValue
served v = record v { left = v.left - 1; arm = stepped v.arm }

abbrev pub failed : MemValue → MemValue
failed v = record v { failures = v.failures + 1; arm = after_failure v.arm }

-- one more call that was to write or sync
abbrev pub asked : MemValue → MemValue
asked v = record v { changes = v.changes + 1 }

abbrev pub after_read : Result (Unit {0}) DiskError → MemValue → MemValue
after_read (Ok _) v = served v
after_read (Err Failed) v = failed v
after_read (Err Full) v = v

abbrev pub IsWritten : ℕ → List ℕ → Result (Unit {0}) DiskError → MemValue → MemValue → Type 0
IsWritten at bytes (Ok _) v w = (call : Call) × IsWriteOf at bytes call
    × (w ≡ record (served (asked v)) { bytes = overwritten v.bytes at bytes; calls = v.calls ++ call ∷ [] })
IsWritten at bytes (Err Failed) v w = w ≡ failed (asked v)
IsWritten at bytes (Err Full) v w = w ≡ asked v

abbrev pub after_sync : Result (Unit {0}) DiskError → MemValue → MemValue
after_sync (Ok _) v = record (served (asked v)) { calls = v.calls ++ Sync ∷ [] }
after_sync (Err Failed) v = failed (asked v)
after_sync (Err Full) v = asked v

-- the next call is refused, by the disk's value
abbrev pub is_refusing : MemValue → Bool
is_refusing v = v.left == 0 || fails_now v.arm

-- What a call does to the disk. It fails exactly if the disk refuses the next call; otherwise a write without room is
-- refused as full.
abbrev pub IsMemoryCall : MemValue → DiskCall → MemValue → Type 0
IsMemoryCall v (Reading at count result) w = (IsErrOf result Failed ↔ (is_refusing v ≡ true)) × (IsErrOf result Full → ⊥) × (w ≡ after_read result v)
IsMemoryCall v (Writing at bytes result) w =
    (at ≤ length v.bytes) × (length bytes ≤ longest_write)
    × (IsErrOf result Failed ↔ (is_refusing v ≡ true)) × (IsErrOf result Full ↔ ((is_refusing v ≡ false) × (v.room < at + length bytes)))
    × IsWritten at bytes result v w
IsMemoryCall v (Syncing result) w = (IsErrOf result Failed ↔ (is_refusing v ≡ true)) × (IsErrOf result Full → ⊥) × (w ≡ after_sync result v)

-- after `arm`
abbrev pub with_arm : Arm → MemValue → MemValue
with_arm arm v = record v { arm = arm; arms = v.arms ++ arm ∷ [] }
