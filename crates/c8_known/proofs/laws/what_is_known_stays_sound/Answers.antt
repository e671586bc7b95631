-- What an empty journal makes known is sound, and each record that a call of `Known` adds keeps it so.
use Rattle.c8_known.specs.checked.KnownLaws.{cut_known, freeze_known, got_known, leave_known, own_known}
use Rattle.c8_known.specs.checked.StartLaws.{known_at_start}
use Rattle.c8_known.proofs.laws.what_is_known_stays_sound.Goals as goal

pub returns-clause-start : goal.returns-clause-start
returns-clause-start c = known_at_start

pub returns-clause-own : goal.returns-clause-own
returns-clause-own c = own_known

pub returns-clause-got : goal.returns-clause-got
returns-clause-got c = got_known

pub returns-clause-freeze : goal.returns-clause-freeze
returns-clause-freeze c = freeze_known

pub returns-clause-leave : goal.returns-clause-leave
returns-clause-leave c = leave_known

pub returns-clause-cut : goal.returns-clause-cut
returns-clause-cut c = cut_known
