-- What is known has player q's part, as the journal says it, at place q of its list.
use Rattle.c8_known.specs.checked.OneMore.{player_known}
use Rattle.c8_known.proofs.laws.known_is_what_the_journal_says.Goals as goal

pub returns : goal.returns
returns c = player_known
