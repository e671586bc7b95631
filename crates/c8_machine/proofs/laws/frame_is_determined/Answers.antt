-- `frame_of` is a frame of the machine, and each frame of it with these keys is that one.
use Rattle.c8_machine.proofs.FrameLemmas.{is_frame, frame_once}
use Rattle.c8_machine.proofs.laws.frame_is_determined.Goals as goal

pub returns : goal.returns
returns c = λ rules keys s. record { is_one = is_frame rules keys s; is_only = frame_once rules keys s }
