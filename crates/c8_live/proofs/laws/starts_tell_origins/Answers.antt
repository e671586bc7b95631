-- The machine reads back from its bytes, so a start gives back the whole origin.
use Rattle.c8_live.proofs.laws.starts_tell_origins.Goals as goal

pub returns : goal.returns
returns c from is = λ i. record { frames = from.frames; machine = c.states_are_read_again.ensures from.machine is.machine_is i; marks = from.marks }
