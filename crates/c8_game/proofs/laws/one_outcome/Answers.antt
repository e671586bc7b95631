-- A line says one thing only, so a text gives one game at most, and one first fault at most.
use Rattle.c8_game.proofs.TextLaws.{one_game, one_fault}
use Rattle.c8_game.proofs.laws.one_outcome.Goals as goal

pub returns-clause-game : goal.returns-clause-game
returns-clause-game c = one_game

pub returns-clause-fault : goal.returns-clause-fault
returns-clause-fault c = one_fault
