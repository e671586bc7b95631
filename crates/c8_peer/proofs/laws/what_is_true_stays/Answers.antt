-- What a datagram says of a journal, a longer journal of the rules says too.
use Rattle.c8_peer.specs.checked.TruthLaws.{truth_stays}
use Rattle.c8_peer.proofs.laws.what_is_true_stays.Goals as goal

pub returns : goal.returns
returns c = truth_stays
