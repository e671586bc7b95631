-- What was taken begins what was put, so the packets with one number are the same.
use Rattle.c8_live.specs.checked.Beginnings.{prefix_get}
use Rattle.c8_live.proofs.laws.taken_once_in_order.Goals as goal

pub returns : goal.returns
returns c = prefix_get
