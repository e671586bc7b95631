-- There is only one oldest changed frame, so whichever the caller names is where the frames were run from.
use Rattle.std.proofs.Common.{arith}
use Rattle.c8_roll.specs.Seen.{rows_run}
use Rattle.c8_roll.proofs.RollbackLemmas.{one_oldest}
use Rattle.c8_roll.proofs.roll.Roll.advance.Goals as goal

pub returns-clause-ran : goal.returns-clause-ran
returns-clause-ran c = λ all oldest is.
    let same = one_oldest (rows_run c.args.self.now) c.args.self.now.timeline.first c.args.self.now.timeline.ticks c.args.known.now
    c.run.result oldest (c.run.ensures.oldest all) is in
    let ran = c.run.ensures.ran in
    omega (arith, same, ran)
