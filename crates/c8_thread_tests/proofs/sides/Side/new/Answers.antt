-- A new side's pen and viewer are of its own board, which shows what its peer has confirmed.
use Rattle.std.proofs.Common.{ap, ◌∙◌}
use Rattle.c8_live.specs.Tokens.{PenValue}
use Rattle.c8_known.specs.Confirmed.{confirmed_rows}
use Rattle.c8_peer.specs.Peer.{known_by, begun_by}
use Rattle.c8_thread_tests.proofs.sides.Side.new.Goals as goal

pub invariant_of-result : goal.invariant_of-result
invariant_of-result g c = record {
  writes = ap (λ (pen : PenValue). pen.board) c.in_ok-board.ensures.pen;
  watches = c.in_ok-board.ensures.viewer;
  plays = c.in_ok-board.ensures.shows.game ∙ ap (λ peer. peer.rules) c.peer.ensures;
  begins = c.in_ok-board.ensures.shows.from ∙ ap (λ peer. begun_by peer) c.peer.ensures;
  shows = ap (λ (pen : PenValue). pen.rows) c.in_ok-board.ensures.pen ∙ ap (λ peer. confirmed_rows (known_by peer)) c.peer.ensures;
}
