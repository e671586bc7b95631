-- Each line says something or has a fault, so a text that no fault refuses spells a game.
use Rattle.c8_game.proofs.TextLaws.{spelled_not_refused, spelled_unless_refused}
use Rattle.c8_game.proofs.laws.spelled_or_refused.Goals as goal

pub returns : goal.returns
returns c = λ text. (λ spelled fault refused. spelled_not_refused text spelled.0 fault spelled.1 refused, spelled_unless_refused text)
