-- The pen may store the word of rows that begin with those it published last.
use Rattle.std.proofs.Common.{rules}
use Rattle.c8_live.proofs.TokenMoves.{publishes_as}
use Rattle.c8_live.proofs.board.Board.store.Goals as goal

pub store-requires : goal.store-requires
store-requires g c = (
  search rules,
  search rules,
  publishes_as _ c.pen.inside.seat.id _ c.pen.inside.seat.me _ _ _ c.pen.invariant c.pen.view_is c.requires.later c.requires.word,
)
