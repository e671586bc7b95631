-- Each part stands at a fixed place of a state's bytes, so the state reads back from them.
use Rattle.c8_digest.proofs.ReadLemmas.{state_again}
use Rattle.c8_digest.proofs.laws.states_are_read_again.Goals as goal

pub returns : goal.returns
returns c = state_again
