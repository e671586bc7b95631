-- What is shown is what the peer has confirmed.
use Rattle.c8_known.specs.Confirmed.{confirmed_rows}
use Rattle.c8_peer.specs.Peer.{known_by}
use Rattle.c8_live.proofs.game.publish.Given as goal

abbrev pub ghost-show : goal.ghost-show
ghost-show g a = confirmed_rows (known_by a._peer.now)
