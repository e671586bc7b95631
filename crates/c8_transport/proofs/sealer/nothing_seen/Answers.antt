-- None of the six seats has a counter that was taken.
use Rattle.c8_transport.proofs.SealerLemmas.{six_empty}
use Rattle.c8_transport.proofs.sealer.nothing_seen.Goals as goal

pub returns : goal.returns
returns c = six_empty _ _ _ _ _ _ c.new.ensures c.new-2.ensures c.new-3.ensures c.new-4.ensures c.new-5.ensures c.new-6.ensures
