-- When all rows are drawn that the screen has room for, just the points of the clipped sprite are flipped.
use Rattle.std.proofs.Common.{◌%◌, arith}
use Rattle.std.proofs.Math.Facts.{Fits-lt-pow}
use Rattle.c8_screen.proofs.DrawLemmas.{points_drawn, meets_drawn}
use Rattle.c8_screen.proofs.Screen.draw.Goals as goal

pub returns-clause-points : goal.returns-clause-points
returns-clause-points c =
    rw c.from-top.ensures at
    (points_drawn c.args.self.now.rows c.loop-k.self.rows c.args.bytes.now (c.args.x % 64) c.from-top.result c.loop-k.k c.loop-k.met
    (omega arith) (omega arith) (omega arith) (λ j. Fits-lt-pow (c.type_inv.bytes j)) c.loop-k.invariant)

pub returns-clause-put_out : goal.returns-clause-put_out
returns-clause-put_out c =
    rw c.from-top.ensures at
    (meets_drawn c.args.self.now.rows c.loop-k.self.rows c.args.bytes.now (c.args.x % 64) c.from-top.result c.loop-k.k c.loop-k.met
    (omega arith) (omega arith) (omega arith) (λ j. Fits-lt-pow (c.type_inv.bytes j)) c.loop-k.invariant)
