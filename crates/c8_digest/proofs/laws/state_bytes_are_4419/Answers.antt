-- Each part of a state that a machine can have takes a fixed number of bytes, 4419 in all.
use Rattle.c8_digest.proofs.LengthLemmas.{state_long}
use Rattle.c8_digest.proofs.laws.state_bytes_are_4419.Goals as goal

pub returns : goal.returns
returns c = state_long
