-- A run that is not refused agrees with what is held, so with its new part all of it is in the list.
use Rattle.c8_known.specs.checked.FreshLaws.{fresh_stands}
use Rattle.c8_known.proofs.laws.what_is_taken_stands.Goals as goal

pub returns : goal.returns
returns c = fresh_stands
