-- The capacities of a world's disks, and when they are to fail.
use Rattle.std.specs.Prelude.{◌≡◌, ◌⊎◌, ℕ, List, [], ◌∷◌, ◌++◌, nat_eq, if◌then◌else◌, Option, Some, None}
use Rattle.c8_disk.specs.declared.disk.Arm.{Arm}
use Rattle.c8_disk.specs.declared.disk.Arm.TheVariants as arms
use Rattle.c8_disk.specs.declared.mem_disk.MemDisk.{MemDisk}
use Rattle.c8_disk.specs.Memory.{bytes_of, room_of, arms_of, value_of, new_value}
use Rattle.c8_world.specs.declared.event.Event as asked
use Rattle.c8_world.specs.declared.event.Event.TheVariants as happenings
use Rattle.c8_world.specs.declared.node.Node.{Node}
use Rattle.c8_world.specs.declared.node.Node.TheVariants as nodes
use Rattle.c8_world.specs.World.{player_of}
use Rattle.c8_world.specs.Events.{act_of}
use Rattle.c8_world.specs.Agreement.{IsPlayer}
use Rattle.c8_world.specs.Table.{TableValue, node_of}

-- the bytes that fit on a disk, and the values given to `arm`, oldest first
pub record Setting : Type 0 where
  pub room : ℕ
  pub arms : List Arm

abbrev pub setting_of_disk : MemDisk → Setting
setting_of_disk disk = record { room = room_of disk; arms = arms_of disk }

abbrev pub setting_of : Option Node → Setting
setting_of None = record { room = 0; arms = [] }
setting_of (Some (nodes.Held peer)) = setting_of_disk peer.disk
setting_of (Some (nodes.Away disk)) = setting_of_disk disk

abbrev pub setting_at : TableValue → ℕ → Setting
setting_at t p = setting_of (node_of t p)

-- The capacities stay, and no disk was armed.
abbrev pub KeepSettings : TableValue → TableValue → Type 0
KeepSettings old new = (p : ℕ) → IsPlayer old.rules p → setting_at new p ≡ setting_at old p

-- after more values given to `arm`
abbrev pub armed : List Arm → Setting → Setting
armed more s = record s { arms = s.arms ++ more }

-- The capacities stay, and each player's disk was armed with these further values.
abbrev pub AreArmed : (ℕ → List Arm) → TableValue → TableValue → Type 0
AreArmed more old new = (p : ℕ) → IsPlayer old.rules p → setting_at new p ≡ armed (more p) (setting_at old p)

-- only one player's disk is armed
abbrev pub for_player : ℕ → List Arm → ℕ → List Arm
for_player player more p = if nat_eq p player then more else []

-- How an event arms the disks. A stop arms the player's own disk to fail from that many calls on, a failure to fail one
-- call after that many. Any other event arms no disk.
abbrev pub arms_by : asked.Event → ℕ → List Arm
arms_by (happenings.Do act) = λ p. []
arms_by (happenings.Stop act calls pick) = for_player (player_of (act_of act)) (arms.Stop calls ∷ [])
arms_by (happenings.Fail act calls) = for_player (player_of (act_of act)) (arms.Once calls ∷ arms.Off ∷ [])

abbrev pub arms_in : List asked.Event → ℕ → List Arm
arms_in [] p = []
arms_in (event ∷ events) p = arms_by event p ++ arms_in events p

-- how an event at which memory was refused arms them: a stop or a failure is taken back
abbrev pub arms_taken_back : asked.Event → ℕ → List Arm
arms_taken_back (happenings.Do act) = λ p. []
arms_taken_back (happenings.Stop act calls pick) = for_player (player_of (act_of act)) (arms.Stop calls ∷ arms.Off ∷ [])
arms_taken_back (happenings.Fail act calls) = for_player (player_of (act_of act)) (arms.Once calls ∷ arms.Off ∷ [])

-- How a run that ran out of memory armed the disks: as the events before that moment do. If memory was refused at an
-- event, and not for the report, that event armed them too.
pub record AreArmedOut (events : List asked.Event) (old new : TableValue) : Type 0 where
  pub before : List asked.Event
  pub after : List asked.Event
  pub at : events ≡ before ++ after
  pub armed : AreArmed (arms_in before) old new
      ⊎ ((event : asked.Event) × (rest : List asked.Event) × (after ≡ event ∷ rest)
      × AreArmed (λ p. arms_in before p ++ arms_taken_back event p) old new)

-- the disk of a peer that was never opened: empty, with this capacity and this many calls to serve
abbrev pub IsNewDisk : ℕ → ℕ → Option Node → Type 0
IsNewDisk capacity calls node = (disk : MemDisk) × (node ≡ Some (nodes.Away disk)) × (value_of disk ≡ new_value capacity calls)

-- ---- one node

abbrev pub disk_in : Node → MemDisk
disk_in (nodes.Held peer) = peer.disk
disk_in (nodes.Away disk) = disk

-- what a read of a player's disk gives
abbrev pub image_in : Option Node → List ℕ
image_in None = []
image_in (Some node) = bytes_of (disk_in node)
