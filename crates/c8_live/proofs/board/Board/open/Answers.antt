-- Two words 0 and a seat that knows the game alone are a board with nothing published.
use Rattle.std.proofs.Common.{[]}
use Rattle.c8_live.proofs.Moves.{begins_blank}
use Rattle.c8_live.proofs.board.Board.open.Goals as goal

pub of_words-requires : goal.of_words-requires
of_words-requires g c = begins_blank c.args.game.now []
