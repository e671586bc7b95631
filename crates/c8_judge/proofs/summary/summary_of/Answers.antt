-- The summary takes one more body, and no count overflows; at the end it has all bodies.
use Rattle.std.proofs.Common.{arith}
use Rattle.c8_log.specs.Slots.{kept}
use Rattle.c8_record.specs.Lent.{value_of}
use Rattle.c8_judge.proofs.SummaryLemmas.{few_entered, few_opened, summed_more}
use Rattle.c8_judge.proofs.summary.summary_of.Goals as goal

pub add-requires-clause-few : goal.add-requires-clause-few
add-requires-clause-few c =
    omega (arith, few_entered (kept c.args.image.now) c.loop-n.n c.loop-n.summary c.loop-n.invariant, c.loop-n-test.true)

pub add-requires-clause-rare : goal.add-requires-clause-rare
add-requires-clause-rare c =
    omega (arith, few_opened (kept c.args.image.now) c.loop-n.n c.loop-n.summary c.loop-n.invariant, c.loop-n-test.true)

pub loop-n-preserved : goal.loop-n-preserved
loop-n-preserved c =
    summed_more (kept c.args.image.now) c.loop-n.n c.kept_body.result.now (value_of c.in-Some.record) c.loop-n.summary c.add.new.self
    c.loop-n.invariant c.kept_body.ensures (rw (c.in-Some.is) at c.view.ensures.value) c.add.ensures
