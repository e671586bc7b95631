-- The pen may load the stop word, and knows nothing more after it.
use Rattle.std.proofs.Common.{rules}
use Rattle.c8_live.proofs.TokenMoves.{wishes_as}
use Rattle.c8_live.proofs.board.Board.stop_asked.Goals as goal

pub load-requires : goal.load-requires
load-requires c = (search rules, search rules, wishes_as _ c.pen.inside.seat.id c.pen.inside.seat.me c.pen.invariant)
