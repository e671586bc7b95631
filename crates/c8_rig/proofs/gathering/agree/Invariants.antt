-- The standings so far know what the peers so far know, and there is room for the rest.
use Rattle.std.proofs.Common.{◌≡◌, ◌≤◌, length, map, take}
use Rattle.std.specs.Prelude.{vec_len, vec_capacity}
use Rattle.c8_peer.specs.Peer.{known_by}
use Rattle.c8_world.specs.Ends.{known_at}
use Rattle.c8_rig.proofs.gathering.agree.Given as goal

abbrev pub invariant-loop-peer : goal.invariant-loop-peer
invariant-loop-peer l =
    (vec_len l.standings ≡ l.peer-index) × (length l.peers ≤ vec_capacity l.standings)
    × (map known_at l.standings.items ≡ map known_by (take l.peer-index l.peers))
