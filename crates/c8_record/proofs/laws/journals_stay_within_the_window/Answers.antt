-- OWN needs room in the window and confirmed frames only grow, so no player is further ahead.
use Rattle.c8_record.proofs.WindowLemmas.{within_window}
use Rattle.c8_record.proofs.laws.journals_stay_within_the_window.Goals as goal

pub returns : goal.returns
returns c = within_window
