-- Each answer after a report is an earlier one or the new number, as the greater of two is one of them; for c8_world.
use Rattle.c8_round.proofs.RoundLemmas.{report_is}
use Rattle.c8_round.proofs.laws.a_report_changes_one_place.Goals as goal

pub returns : goal.returns
returns c = report_is
