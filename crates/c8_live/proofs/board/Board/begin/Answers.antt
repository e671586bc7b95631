-- The blank seat may store the word of the first rows, and becomes the pen's.
use Rattle.std.proofs.Common.{rules}
use Rattle.c8_live.proofs.TokenMoves.{begins_as}
use Rattle.c8_live.proofs.board.Board.begin.Goals as goal

pub store-requires : goal.store-requires
store-requires g c = (search rules, search rules, begins_as _ c.args.seat.id c.args.seat.me _ _ _ _ c.requires.blank c.requires.word)
