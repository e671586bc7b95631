-- The outcome for the game that was read, or for why it was not, is the outcome for its text.
use Rattle.c8_replay.proofs.OutcomeLemmas.{outcome_of}
use Rattle.c8_replay.proofs.showing.show_journal.Goals as goal

pub returns : goal.returns
returns c = outcome_of c.args.game.now c.args.image.now c.args.wish.now c.read.result c.show_read.result c.read.ensures.game
    c.read.ensures.refused c.show_read.ensures
