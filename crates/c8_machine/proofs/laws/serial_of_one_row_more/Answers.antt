-- The serial run goes row by row, so the last row is one frame of the machine after the others.
use Rattle.c8_machine.proofs.SerialLemmas.{one_row_more}
use Rattle.c8_machine.proofs.laws.serial_of_one_row_more.Goals as goal

pub returns : goal.returns
returns c = one_row_more
