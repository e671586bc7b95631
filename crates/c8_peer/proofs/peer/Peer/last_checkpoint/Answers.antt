-- The checkpoints that the peer keeps are those of its journal.
use Rattle.std.proofs.Common.{◌≡◌, ap, subst, ◌∙◌}
use Rattle.c8_record.specs.Checks.{ChecksValue, frames_of, checks_of}
use Rattle.c8_record.specs.Seen.{value_of as checked}
use Rattle.c8_peer.specs.Peer.{PeerValue}
use Rattle.c8_peer.proofs.peer.Peer.last_checkpoint.Goals as goal

pub returns : goal.returns
returns g c =
    c.last_frames.ensures ∙ ap (λ (x : ChecksValue). frames_of x.last)
    (subst (λ (v : PeerValue g.row.D.Denot). checked c.self.inside.checks ≡ checks_of v.state.journal) c.self.view_is c.self.invariant.1.checks_are)
