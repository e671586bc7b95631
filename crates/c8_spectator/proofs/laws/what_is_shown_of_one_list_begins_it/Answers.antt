-- Fresh rows of one list go on where the watcher's rows end, so these stay its beginning; for c8_watch.
use Rattle.c8_spectator.specs.checked.WatchLaws.{truth_shown, truth_heard, truth_agrees}
use Rattle.c8_spectator.proofs.laws.what_is_shown_of_one_list_begins_it.Goals as goal

pub returns-clause-shown : goal.returns-clause-shown
returns-clause-shown c = truth_shown

pub returns-clause-any : goal.returns-clause-any
returns-clause-any c = truth_heard

pub returns-clause-agrees : goal.returns-clause-agrees
returns-clause-agrees c = truth_agrees
