-- The run of the new board starts where the peer's machine began, and has the peer's confirmed rows.
use Rattle.c8_live.specs.Starts.{start_of}
use Rattle.c8_known.specs.Confirmed.{confirmed_rows}
use Rattle.c8_peer.specs.Peer.{known_by, begun_by}
use Rattle.c8_live.proofs.game.open_board.Given as goal

abbrev pub ghost-open_at : goal.ghost-open_at
ghost-open_at g a = record { from = start_of (begun_by a._peer.now); rows = confirmed_rows (known_by a._peer.now) }
