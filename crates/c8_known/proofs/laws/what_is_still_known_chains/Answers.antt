-- What is still known after one step and after the next is still known after both.
use Rattle.c8_known.specs.checked.KnownLaws.{still_same, still_more}
use Rattle.c8_known.proofs.laws.what_is_still_known_chains.Goals as goal

pub returns-clause-same : goal.returns-clause-same
returns-clause-same c = still_same

pub returns-clause-more : goal.returns-clause-more
returns-clause-more c = still_more
