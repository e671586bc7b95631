-- Each input that is compared leaves fewer held ones.
use Rattle.std.proofs.Common.{length}
use Rattle.c8_known.proofs.table.+differ_from.Given as goal

abbrev pub decreases-differ_from : goal.decreases-differ_from
decreases-differ_from l = length l.held.now
