-- Why a watcher takes no datagram is told by the part that refused it: the wire, or the watching.
use Rattle.std.proofs.Common.{codes, ap}
use Rattle.c8_script.specs.Printed.{not_taken_text, refusal_text}
use Rattle.c8_script.proofs.PrintLemmas.{not_taken_by}
use Rattle.c8_script.proofs.answers.write_not_taken.Goals as goal

pub returns-in-Wire : goal.returns-in-Wire
returns-in-Wire g c =
    not_taken_by (g.W.Write.contents c.args.out.now) (g.W.Write.contents c.write_refusal.new.out) c.args.error c.name.result.now
    (refusal_text (codes "wire") c.number.result c.name.result.now) c.write_refusal.result
    (rw (c.number.ensures) (ap (not_taken_text c.name.result.now) c.in-Wire.is)) c.write_refusal.ensures

pub returns-in-Watch : goal.returns-in-Watch
returns-in-Watch g c =
    not_taken_by (g.W.Write.contents c.args.out.now) (g.W.Write.contents c.write_refusal-in-Watch.new.out) c.args.error c.name-in-Watch.result.now
    (refusal_text (codes "watch") c.number-in-Watch.result c.name-in-Watch.result.now) c.write_refusal-in-Watch.result
    (rw (c.number-in-Watch.ensures) (ap (not_taken_text c.name-in-Watch.result.now) c.in-Watch.is)) c.write_refusal-in-Watch.ensures
