-- The seed and the number of the draw, 8 bytes each, are hashed as one message.
use Rattle.std.proofs.Common.{refl}
use Rattle.c8_machine.specs.Steps.{random_byte}
use Rattle.c8_machine.proofs.machine.arithmetic.random_byte.Goals as goal

pub returns : goal.returns
unfolding random_byte
returns c = rw (c.digest_of_both.ensures, c.to_be_bytes.ensures, c.to_be_bytes-2.ensures) refl
