-- Each datagram moves the time of a full budget on by its cost, and that time is at most 128 costs ahead.
use Rattle.c8_relay.proofs.BudgetLemmas.{most}
use Rattle.c8_relay.proofs.bucket.passes_no_more.Goals as goal

pub returns : goal.returns
returns c = most
