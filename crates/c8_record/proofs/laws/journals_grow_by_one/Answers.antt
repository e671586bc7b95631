-- A journal grows by one allowed record at a time, and says then what it said before and this record.
use Rattle.c8_record.specs.checked.JournalLaws.{checks_more, journal_none, journal_more, next_allowed, journal_begins, known_more}
use Rattle.c8_record.proofs.laws.journals_grow_by_one.Goals as goal

pub returns-clause-none : goal.returns-clause-none
returns-clause-none c = journal_none

pub returns-clause-more : goal.returns-clause-more
returns-clause-more c = journal_more

pub returns-clause-next : goal.returns-clause-next
returns-clause-next c = next_allowed

pub returns-clause-begins : goal.returns-clause-begins
returns-clause-begins c = journal_begins

pub returns-clause-checks : goal.returns-clause-checks
returns-clause-checks c = checks_more

pub returns-clause-known : goal.returns-clause-known
returns-clause-known c = known_more
