-- The first machine is in range and each frame keeps it there, so a serial run does.
use Rattle.c8_machine.proofs.StateLemmas.{first_in, frame_of_in, serial_in}
use Rattle.c8_machine.proofs.laws.states_stay_in_range.Goals as goal

pub returns-clause-first : goal.returns-clause-first
returns-clause-first c = first_in

pub returns-clause-frame : goal.returns-clause-frame
returns-clause-frame c = frame_of_in

pub returns-clause-serial : goal.returns-clause-serial
returns-clause-serial c = serial_in
