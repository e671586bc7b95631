-- How three datagrams open two links, by what each player knows of the other; for a law over turns.
use Rattle.c8_progress.proofs.MeetingLemmas.{all_meet, greeted_meet, fresh_stays}
use Rattle.c8_progress.proofs.laws.two_players_meet.Goals as goal

pub returns-clause-always : goal.returns-clause-always
returns-clause-always c = all_meet

pub returns-clause-turns : goal.returns-clause-turns
returns-clause-turns c = greeted_meet

pub returns-clause-stays : goal.returns-clause-stays
returns-clause-stays c = fresh_stays
