-- Wherever a key leads, the next frame is one of those to show, with the machine of its serial run.
use Rattle.std.proofs.Common.{ℕ, sym, subst, arith}
use Rattle.c8_known.specs.Confirmed.{rows_below}
use Rattle.c8_replay.specs.Replay.{IsRunOfRows}
use Rattle.c8_replay.proofs.screening.screen_rows.Goals as goal

pub loop-preserved : goal.loop-preserved
loop-preserved g c =
    let moved = c.moved-at.ensures in
    record {
      run = subst (λ (n : ℕ). IsRunOfRows c.args.game.now (rows_below c.args.known.now n) c.moved-at.result) (sym moved.frames) moved.run;
      within = omega (arith, moved.frames, c.goal_of-goal.ensures);
    }
