-- At most sixteen marks are kept, and the newest of those that were put is the last.
use Rattle.c8_digest.proofs.MarkLemmas.{few, newest}
use Rattle.c8_digest.proofs.laws.marks_are_the_last_sixteen.Goals as goal

pub returns-clause-few : goal.returns-clause-few
returns-clause-few c = few

pub returns-clause-newest : goal.returns-clause-newest
returns-clause-newest c = newest
