-- Each pair that is passed leaves fewer bytes, so the walk to a place ends.
use Rattle.std.proofs.Common.{length}
use Rattle.c8_pairs.proofs.run.+begun_at.Given as goal

abbrev pub decreases-begun_at : goal.decreases-begun_at
decreases-begun_at l = length l.bytes.now
