-- Lines without a fault finish as the game that they spell or with the fault at their end.
use Rattle.c8_game.proofs.ReadLemmas.{finished, refused_at, spelled_if_ok, refused_if_err}
use Rattle.c8_game.proofs.game.Game.read.Goals as goal

pub returns-in-Ok-clause-game : goal.returns-in-Ok-clause-game
returns-in-Ok-clause-game c = spelled_if_ok c.args.text.now c.finish.result
    (finished c.in-Ok.draft c.args.text.now c.finish.result c.in-Ok.ensures c.finish.ensures)

pub returns-in-Ok-clause-refused : goal.returns-in-Ok-clause-refused
returns-in-Ok-clause-refused c = refused_if_err c.args.text.now c.finish.result
    (finished c.in-Ok.draft c.args.text.now c.finish.result c.in-Ok.ensures c.finish.ensures)

pub returns-in-Err-clause-refused : goal.returns-in-Err-clause-refused
returns-in-Err-clause-refused c = refused_at c.args.text.now c.in-Err.error c.in-Err.field-0-1 c.in-Err.ensures
