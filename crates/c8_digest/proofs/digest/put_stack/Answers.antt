-- The next place of the stack is appended: its return address, or 0 if it is not in use.
use Rattle.std.proofs.Common.{length, ap, arith}
use Rattle.c8_digest.proofs.StackLemmas.{stack_more}
use Rattle.c8_digest.proofs.digest.put_stack.Goals as goal

pub loop-n-preserved : goal.loop-n-preserved
loop-n-preserved c = record {
  items =
      stack_more c.args.out.now.items c.loop-n.out.items c.to_be_bytes.result c.put-in-loop-n.new.out.items c.args.stack.now c.loop-n.n
      c.place_at.result c.requires.depth c.loop-n-test.true
      c.place_at.ensures c.loop-n.invariant.items c.to_be_bytes.ensures c.put-in-loop-n.ensures.bytes;
  size = omega (arith, c.put-in-loop-n.ensures.size, c.loop-n.invariant.size, ap length c.to_be_bytes.ensures);
}
