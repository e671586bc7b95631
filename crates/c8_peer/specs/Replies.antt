-- Which mode a peer is in, read from its answer.
use Rattle.std.specs.Prelude.{Ok, Err}
use Rattle.c8_peer.specs.State.{Mode, Open, Down, Away, Reply, Opened, Ticked, Delivered, Said, Left, Decided, Checked}
use Rattle.c8_peer.specs.Steps.{DiskOutcome, Works, Refuses}
use Rattle.c8_peer.specs.Peer.{disk_outcome_of}

abbrev pub mode_by : DiskOutcome → Mode
mode_by Works = Open
mode_by (Refuses why) = Down

-- The mode of a peer after this answer. After an opening it is open or away. After a call it is down if the disk
-- refused the record, else open.
abbrev pub mode_told : Reply → Mode
mode_told (Opened (Ok epoch)) = Open
mode_told (Opened (Err error)) = Away
mode_told (Ticked result) = mode_by (disk_outcome_of (Ticked result))
mode_told (Delivered result) = mode_by (disk_outcome_of (Delivered result))
mode_told (Said result) = Open
mode_told (Left result) = mode_by (disk_outcome_of (Left result))
mode_told (Decided result) = mode_by (disk_outcome_of (Decided result))
mode_told (Checked result) = mode_by (disk_outcome_of (Checked result))
