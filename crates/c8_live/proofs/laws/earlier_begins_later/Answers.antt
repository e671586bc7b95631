-- The beginning of a beginning is a beginning of the whole, so what was taken early stays one.
use Rattle.c8_live.specs.checked.Beginnings.{prefix_of_longer}
use Rattle.c8_live.proofs.laws.earlier_begins_later.Goals as goal

pub returns : goal.returns
returns c = prefix_of_longer
