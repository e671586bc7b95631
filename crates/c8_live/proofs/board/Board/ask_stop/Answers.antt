-- A viewer may set the stop word at any moment, and has then asked for the end.
use Rattle.std.proofs.Common.{rules}
use Rattle.c8_live.proofs.TokenMoves.{asks_as}
use Rattle.c8_live.proofs.board.Board.ask_stop.Goals as goal

pub fetch_or-found-requires : goal.fetch_or-found-requires
fetch_or-found-requires c = (search rules, search rules, asks_as _ c.viewer.inside.seat.id c.viewer.inside.seat.me c.viewer.invariant)
