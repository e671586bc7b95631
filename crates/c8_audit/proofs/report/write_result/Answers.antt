-- The line of the result is its count, the digits of the digest and a line feed, one behind another.
use Rattle.c8_texts.specs.checked.Grows.{grows_by, grows_then, grows_last}
use Rattle.c8_audit.proofs.report.write_result.Goals as goal

pub returns : goal.returns
returns g c =
    let first = g.W.Write.contents c.args.out.now in
    let number = g.W.Write.contents c.write.new.self in
    let digits = g.W.Write.contents c.write_hex.new.out in
    grows_last first digits (g.W.Write.contents c.writeln.new.self) _ c.writeln.result
    (grows_then first number digits (grows_by first number _ c.in_ok-write.ensures.bytes) c.in_ok-write_hex.ensures) c.writeln.ensures.bytes
