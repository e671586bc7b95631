-- A word, each register in hexadecimal, and a line feed only add text: the line of the registers.
use Rattle.std.proofs.Common.{codes}
use Rattle.c8_texts.specs.checked.Grows.{grows_by, grows_then, grows_last}
use Rattle.c8_texts.proofs.ReportLemmas.{grows_hex}
use Rattle.c8_texts.proofs.report.write_registers.Goals as goal

pub loop-value-preserved : goal.loop-value-preserved
loop-value-preserved g c =
    grows_then (g.W.Write.contents c.write.new.self) (g.W.Write.contents c.loop-value.out)
    (g.W.Write.contents c.write-in-loop-value.new.self) c.loop-value.invariant
    (grows_hex (g.W.Write.contents c.loop-value.out) (g.W.Write.contents c.write-in-loop-value.new.self) _ (codes " ") _ _
    c.in_radix.ensures c.in_ok-write-2.ensures.bytes)

pub returns : goal.returns
returns g c =
    grows_last (g.W.Write.contents c.args.out.now) (g.W.Write.contents c.loop-value.out) (g.W.Write.contents c.writeln.new.self) _ c.writeln.result
    (grows_then (g.W.Write.contents c.args.out.now) (g.W.Write.contents c.write.new.self) (g.W.Write.contents c.loop-value.out)
    (grows_by (g.W.Write.contents c.args.out.now) (g.W.Write.contents c.write.new.self) _ c.in_ok-write.ensures.bytes) c.loop-value.invariant)
    c.writeln.ensures.bytes
