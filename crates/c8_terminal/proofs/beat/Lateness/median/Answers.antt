-- All counts together reach half, so if no smaller number of milliseconds does, the last one is the median.
use Rattle.std.proofs.Common.{arith, rules}
use Rattle.c8_terminal.proofs.BeatLemmas.{last_is_median}
use Rattle.c8_terminal.proofs.beat.Lateness.median.Goals as goal

pub returns : goal.returns
returns c = last_is_median c.args.self.now.frames 63 (search rules) (λ fewer below. c.loop-place.invariant.none fewer (omega arith))
