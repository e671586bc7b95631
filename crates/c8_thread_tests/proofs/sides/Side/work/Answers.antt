-- The pen shows just what the peer has confirmed, as its worker needs, and stays the pen of the viewer's board.
use Rattle.std.proofs.Common.{[], sym, ◌∙◌, append-nil}
use Rattle.c8_thread_tests.proofs.sides.Side.work.Goals as goal

pub game_worker-made-requires-clause-rows : goal.game_worker-made-requires-clause-rows
game_worker-made-requires-clause-rows g c = record { rest = []; is = sym c.args.self.shows ∙ sym (append-nil c.args.self.pen.rows) }

pub look_with-shown-requires-clause-pen : goal.look_with-shown-requires-clause-pen
look_with-shown-requires-clause-pen g c = c.game_worker-made.ensures.pen.0 ∙ c.args.self.writes
