-- A new viewer may be split off the pen: it has seen what the pen published last.
use Rattle.std.proofs.Common.{rules}
use Rattle.c8_live.proofs.TokenMoves.{enlists_as}
use Rattle.c8_live.proofs.board.Board.enlist.Goals as goal

pub split_seat-requires : goal.split_seat-requires
split_seat-requires c = (search rules, search rules, enlists_as c.pen.inside.seat.id c.pen.inside.seat.me c.pen.invariant)
