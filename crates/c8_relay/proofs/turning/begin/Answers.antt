-- A seat that is freed changes nothing of what was received and sent, so the relay stays honest.
use Rattle.c8_relay.proofs.HonestLemmas.{fewer_seats}
use Rattle.c8_relay.proofs.turning.begin.Goals as goal

pub returns-clause-honest : goal.returns-clause-honest
returns-clause-honest g c =
    fewer_seats c.args.now c.args.relay.now c.begin_batch.new.self _ _ c.begin_batch.ensures.key c.begin_batch.ensures.seats c.requires
