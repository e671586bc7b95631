-- `Kept` means that a SHOW had a row that is new; with any other answer none is added.
use Rattle.c8_spectator.specs.checked.WatchLaws.{kept_more, unkept_same}
use Rattle.c8_spectator.proofs.laws.only_new_rows_are_kept.Goals as goal

pub returns-clause-more : goal.returns-clause-more
returns-clause-more c = kept_more

pub returns-clause-same : goal.returns-clause-same
returns-clause-same c = unkept_same
