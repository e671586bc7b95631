-- Each input of a confirmed frame is settled, so none is guessed.
use Rattle.c8_known.specs.checked.ConfirmedLaws.{best_of_confirmed}
use Rattle.c8_known.proofs.laws.what_is_confirmed_is_not_guessed.Goals as goal

pub returns : goal.returns
returns c = best_of_confirmed
