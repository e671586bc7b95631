-- What is written of a run reads back: its bytes hold its pairs, and these pass as a run of its length.
use Rattle.c8_pairs.specs.checked.PairLaws.{pairs_at-spelling, spelling_is_run}
use Rattle.c8_pairs.proofs.laws.what_is_spelled_is_a_run.Goals as goal

pub returns-clause-pairs : goal.returns-clause-pairs
returns-clause-pairs c = pairs_at-spelling

pub returns-clause-run : goal.returns-clause-run
returns-clause-run c = spelling_is_run
