-- Each byte that is written widens the torn range by one; to stop early counts as torn over the whole range.
use Rattle.std.proofs.Common.{length, arith}
use Rattle.c8_disk.specs.checked.TornLaws.{torn_wider}
use Rattle.c8_disk.proofs.Tear.{torn_more}
use Rattle.c8_disk.proofs.bytes.tear.Goals as goal

pub returns-then-i-reach-clause-torn : goal.returns-then-i-reach-clause-torn
returns-then-i-reach-clause-torn c =
    torn_wider c.args.at c.loop-i.i (length c.args.bytes.now) c.args.file.now.items c.loop-i.file.items (omega arith) c.loop-i.invariant.torn

pub loop-i-preserved : goal.loop-i-preserved
loop-i-preserved c = record {
  torn = torn_more c.args.at c.loop-i.i c.args.file.now.items c.loop-i.file.items c.put.new.file.items c.loop-i.invariant.torn c.put.ensures.torn;
  place = omega arith;
  capacity = omega arith;
}
