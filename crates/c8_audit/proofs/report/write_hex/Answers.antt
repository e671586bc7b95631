-- The two digits of one more byte are added behind the others.
use Rattle.std.proofs.Common.{false}
use Rattle.std.specs.Fmt.{digits_output, padded_integral, shown_prefix, radix_prefix}
use Rattle.std.specs.Io.KnownBytes.{Appends}
use Rattle.c8_texts.specs.checked.Grows.{grows_then}
use Rattle.c8_audit.proofs.PrintLemmas.{some_of}
use Rattle.c8_audit.proofs.report.write_hex.Goals as goal

pub loop-byte-preserved : goal.loop-byte-preserved
loop-byte-preserved g c =
    let style = c.laid_out.result in
    grows_then (g.W.Write.contents c.args.out.now) (g.W.Write.contents c.loop-byte.out) (g.W.Write.contents c.write.new.self) c.loop-byte.invariant
    (some_of (padded_integral style false (shown_prefix style (radix_prefix c.in_radix.result.base)))
    (Appends (g.W.Write.contents c.loop-byte.out) (g.W.Write.contents c.write.new.self)) (digits_output c.in_radix.result) _ c.in_radix.ensures
    c.in_ok-write.ensures.bytes)
