-- The marks are appended oldest first, 8 bytes each, and zeros fill the rest of the 128 bytes.
use Rattle.std.proofs.Common.{◌≡◌, Some, length, sym, ap, subst, ◌∙◌, arith}
use Rattle.std.specs.List.{slice_get}
use Rattle.std.specs.Option.{option_copied}
use Rattle.c8_digest.proofs.MarkBytesLemmas.{bytes_next, bytes_end}
use Rattle.c8_digest.proofs.marks.Marks.spelled.Goals as goal

pub loop-n-preserved : goal.loop-n-preserved
loop-n-preserved c =
    let inside : slice_get c.self.inside.ring.items c.loop-n.n ≡ Some c.in-Some.kept.now = sym c.get.ensures ∙ ap option_copied c.in-Some.is in
    let here = subst (λ marks. slice_get marks c.loop-n.n ≡ Some c.in-Some.kept.now) c.self.view_is inside in
    record {
      items = bytes_next c.args.self.now c.loop-n.n c.in-Some.kept.now c.loop-n.bytes.items c.put.new.out.items here
          c.loop-n.invariant.items c.put.ensures.bytes;
      size = omega (arith, c.put.ensures.size, c.loop-n.invariant.size);
    }

pub returns-clause-bytes : goal.returns-clause-bytes
returns-clause-bytes c =
    bytes_end c.args.self.now c.loop-n.n _ c.loop-n.bytes.items c.put-2.new.out.items
    (omega (arith, c.loop-n-test.false, c.len-n-end.ensures.len, ap length c.self.view_is))
    (omega (arith, c.loop-n.auto.n-end, c.len-n-end.ensures.len, ap length c.self.view_is))
    (omega (arith, c.len-room.ensures.value, c.loop-n.invariant.size)) c.loop-n.invariant.items c.put-2.ensures.bytes
