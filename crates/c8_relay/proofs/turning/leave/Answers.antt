-- Seats that are freed change nothing of what was received and sent, so the relay stays honest.
use Rattle.c8_relay.proofs.HonestLemmas.{keeps_honest}
use Rattle.c8_relay.proofs.turning.leave.Goals as goal

pub returns-clause-honest : goal.returns-clause-honest
returns-clause-honest g c = keeps_honest c.args.relay.now c.close.new.self _ _ c.close.ensures.key c.close.ensures.nobody c.requires
