-- After each action the decoder is ready again, so a list of actions gives their signals one after another.
use Rattle.c8_terminal.proofs.SentLemmas.{all_told}
use Rattle.c8_terminal.proofs.laws.nothing_else_is_told.Goals as goal

pub returns : goal.returns
returns c = all_told
