-- At the end there is a standing of each peer, so the verdict on the standings is one on all peers.
use Rattle.std.proofs.Common.{◌≡◌, ap, map, take, ◌∙◌, List}
use Rattle.c8_disk.specs.declared.mem_disk.MemDisk.{MemDisk}
use Rattle.c8_peer.specs.Peer.{PeerValue, known_by}
use Rattle.c8_world.specs.Ends.{known_at}
use Rattle.c8_rig.proofs.Parts.{take_all}
use Rattle.c8_rig.proofs.gathering.agree.Goals as goal

pub returns : goal.returns
returns c =
    let peers : List (PeerValue MemDisk) = c.args.peers.now in
    let all : take c.loop-peer.peer-index peers ≡ peers = take_all peers c.loop-peer.peer-index c.loop-peer-test.false in
    (c.deref.result.now, ap (map known_at) c.deref.ensures.value ∙ c.loop-peer.invariant.2 ∙ ap (map known_by) all, c.all_agree.ensures)
