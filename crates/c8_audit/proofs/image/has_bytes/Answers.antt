-- A block that is equal goes on with the bytes, so after all blocks the reader has given just these.
use Rattle.std.proofs.Common.{◌+◌, ◌-◌, ◌*◌, Ok, ap, ◌∙◌, arith}
use Rattle.std.proofs.lemmas.Grind.{common_steps}
use Rattle.c8_audit.proofs.ImageLemmas.{consumes_more}
use Rattle.c8_audit.proofs.image.has_bytes.Goals as goal

pub loop-n-preserved : goal.loop-n-preserved
loop-n-preserved g c =
    let start = 65536 * c.loop-n.n in (
      grind (arith, common_steps),
      consumes_more (g.R.Read.remaining c.args.reader) (g.R.Read.remaining c.loop-n.reader) (g.R.Read.remaining c.goes_on_with.new.reader)
          start (start + 65536 - start) (65536 * (c.loop-n.n + 1)) c.args.bytes.now
          (omega arith) c.loop-n.invariant.1 (c.goes_on_with.ensures (c.in_ok-goes_on_with.was ∙ ap Ok c.if-not-branch.false)),
    )
