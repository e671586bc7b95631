-- What a list of calls does to a peer.
use Rattle.std.specs.Prelude.{◌≡◌, List, map, Option}
use Rattle.c8_disk.specs.declared.disk.Disk.{Ghosts}
use Rattle.c8_disk.specs.declared.error.DiskError.{DiskError}
use Rattle.c8_disk.specs.Runs.{IsSameDisk}
use Rattle.c8_peer.specs.State.{Call, Reply}
use Rattle.c8_peer.specs.Steps.{DiskOutcome, Refuses}
use Rattle.c8_peer.specs.Peer.{PeerValue, IsAnswered, disk_outcome_of}
use Rattle.c8_peer.specs.Runs.{Deed, Does, IsRun}

-- a call, and what the disk does with its record; no opening, close or crash
abbrev pub does : Call × DiskOutcome → Deed
does call = Does call.0 call.1

-- The peer of the same match and player, on the same disk, after some calls; each call is one step of the definitions.
pub record HasRunOn {D : Type 0} (disk : Ghosts D) (old new : PeerValue D) : Type 0 where
  pub rules : new.rules ≡ old.rules
  pub room : new.room ≡ old.room
  pub me : new.me ≡ old.me
  pub calls : List (Call × DiskOutcome)
  pub answers : List (Option Reply)
  pub run : IsRun old.rules old.room old.me old.state (map does calls) answers new.state
  pub disk_is : IsSameDisk disk old.disk new.disk

-- A run, and one more call that is answered as its contract says. The disk refused the record of that call for this
-- reason.
pub record IsStopped {D : Type 0} (disk : Ghosts D) (old new : PeerValue D) (why : DiskError) : Type 0 where
  pub before : PeerValue D
  pub ran : HasRunOn disk old before
  pub call : Call
  pub reply : Reply
  pub answered : IsAnswered disk before call reply new
  pub refused : disk_outcome_of reply ≡ Refuses why
