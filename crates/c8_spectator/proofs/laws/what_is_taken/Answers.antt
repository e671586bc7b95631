-- What no check refuses is a SHOW of the match to this seat, and it is taken; the watcher's rows then reach its end.
use Rattle.c8_spectator.specs.checked.WatchLaws.{what_is_taken, taken_answer, taken_rows, taken_reaches}
use Rattle.c8_spectator.proofs.laws.what_is_taken.Goals as goal

pub returns-clause-is : goal.returns-clause-is
returns-clause-is c = what_is_taken

pub returns-clause-answer : goal.returns-clause-answer
returns-clause-answer c = taken_answer

pub returns-clause-rows : goal.returns-clause-rows
returns-clause-rows c = taken_rows

pub returns-clause-reaches : goal.returns-clause-reaches
returns-clause-reaches c = taken_reaches
