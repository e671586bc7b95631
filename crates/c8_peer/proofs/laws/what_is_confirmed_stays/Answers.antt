-- A longer journal confirms no fewer frames, and those of before have the same rows.
use Rattle.c8_peer.specs.checked.TruthLaws.{confirmed_counts, confirmed_stays}
use Rattle.c8_peer.proofs.laws.what_is_confirmed_stays.Goals as goal

pub returns-clause-counts : goal.returns-clause-counts
returns-clause-counts c = confirmed_counts

pub returns-clause-rows : goal.returns-clause-rows
returns-clause-rows c = confirmed_stays
