-- What ends a session before its game ends.
use Rattle.c8_disk.specs.declared.disk.Disk.{Ghosts}
use Rattle.c8_peer.specs.Peer.{PeerValue}
use Rattle.c8_session.specs.Runs.{IsStopped}
use Rattle.c8_live.specs.declared.error.SessionError.{SessionError}
use Rattle.c8_live.specs.declared.error.SessionError.TheVariants.{Disk, Wire}

-- why a session cannot go on; nothing is claimed for a failure of the wire
abbrev pub IsEnd : {D : Type 0} → Ghosts D → PeerValue D → PeerValue D → SessionError → Type 0
IsEnd disk old new (Disk why) = IsStopped disk old new why
IsEnd disk old new (Wire failed) = Unit {0}
