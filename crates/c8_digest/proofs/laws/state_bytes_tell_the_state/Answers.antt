-- Each part of a state follows from its bytes, so states with the same bytes are equal.
use Rattle.c8_digest.proofs.SameLemmas.{state_same}
use Rattle.c8_digest.proofs.laws.state_bytes_tell_the_state.Goals as goal

pub returns : goal.returns
returns c = state_same
