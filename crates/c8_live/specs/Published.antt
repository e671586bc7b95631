-- What the pen of a board shows of a peer. If the checkpoints of the peer's journal are true, the board's run is the
-- serial run (`true_checks_show_the_serial_run` of `src/laws.rt`).
use Rattle.std.specs.Prelude.{◌≡◌}
use Rattle.atomic_table.specs.Seated.{TableId}
use Rattle.c8_live.specs.Starts.{start_of, origin_from}
use Rattle.c8_live.specs.Tokens.{PenValue, ViewerValue, Begins, new_viewer}
use Rattle.c8_known.specs.Confirmed.{confirmed_rows}
use Rattle.c8_peer.specs.Peer.{PeerValue, known_by, begun_by}

-- the pen, of the same board and game as before, has published the peer's confirmed rows
abbrev pub IsShown : {D : Type 0} → PeerValue D → PenValue → PenValue → Type 0
IsShown peer old new = new ≡ record old { rows = confirmed_rows (known_by peer) }

-- The pen can show the peer: it has the same game, its run begins where the peer's machine began, and the peer's
-- confirmed rows begin with those that it published.
pub record MayShow {D : Type 0} (peer : PeerValue D) (pen : PenValue) : Type 0 where
  pub game : pen.game ≡ peer.rules
  pub from : origin_from pen.from ≡ begun_by peer
  pub rows : Begins pen.rows (confirmed_rows (known_by peer))

-- the pen of a new board that shows a peer, and its viewers
abbrev pub pen_at : {D : Type 0} → TableId → PeerValue D → PenValue
pen_at board peer = record { board = board; game = peer.rules; from = start_of (begun_by peer); rows = confirmed_rows (known_by peer) }

abbrev pub viewer_at : {D : Type 0} → TableId → PeerValue D → ViewerValue
viewer_at board peer = new_viewer board peer.rules (start_of (begun_by peer)) (confirmed_rows (known_by peer))
