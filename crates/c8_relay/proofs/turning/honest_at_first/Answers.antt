-- Before the first packet nobody sits and nothing was sent.
use Rattle.c8_relay.proofs.HonestLemmas.{at_first}
use Rattle.c8_relay.proofs.turning.honest_at_first.Goals as goal

pub returns : goal.returns
returns c = at_first
