-- The line of one more dropped player is added behind the others.
use Rattle.c8_texts.specs.checked.Grows.{grows_then}
use Rattle.c8_audit.proofs.report.write_dropped.Goals as goal

pub loop-number-preserved : goal.loop-number-preserved
loop-number-preserved g c = grows_then (g.W.Write.contents c.args.out.now) (g.W.Write.contents c.loop-number.out)
    (g.W.Write.contents c.write_drop.new.out) c.loop-number.invariant c.in_ok-write_drop.ensures
