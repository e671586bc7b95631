-- An allowed record keeps what is known sound and takes nothing back, so confirmed rows only grow.
use Rattle.c8_known.specs.checked.ConfirmedLaws.{rows_stay}
use Rattle.c8_known.specs.Known.{known_of}
use Rattle.std.proofs.Common.{◌++◌}
use Rattle.c8_record.specs.checked.JournalLaws.{journal_known, journal_grows}
use Rattle.c8_record.proofs.laws.what_a_journal_says_stays.Goals as goal

pub returns-clause-known : goal.returns-clause-known
returns-clause-known c = journal_known

pub returns-clause-still : goal.returns-clause-still
returns-clause-still c = journal_grows

pub returns-clause-rows : goal.returns-clause-rows
returns-clause-rows c = λ rules me room journal rest range from to is. rows_stay (known_of rules me journal)
    (known_of rules me (journal ++ rest)) (journal_grows rules me room journal rest range from to is)
