-- The answer holds by whatever rules, and so by those of this game.
use Rattle.c8_audit.proofs.verdict.judge.Goals as goal

pub returns-clause-agree : goal.returns-clause-agree
returns-clause-agree c = c.agree.ensures c.args.game.now
