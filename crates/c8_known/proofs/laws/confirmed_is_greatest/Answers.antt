-- Up to the ticks no number greater than `confirmed` has all inputs below it settled, and no other is such.
use Rattle.c8_known.specs.checked.ConfirmedLaws.{confirmed_is, confirmed_only}
use Rattle.c8_known.proofs.laws.confirmed_is_greatest.Goals as goal

pub returns-clause-is : goal.returns-clause-is
returns-clause-is c = confirmed_is

pub returns-clause-only : goal.returns-clause-only
returns-clause-only c = confirmed_only
