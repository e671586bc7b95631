-- What is added is the text of the game that is asked for, which has no fault.
use Rattle.std.proofs.Common.{Ok, refl}
use Rattle.c8_files.proofs.game_command.make.Goals as goal

pub returns-in_ok-write_all-in-Ok : goal.returns-in_ok-write_all-in-Ok
returns-in_ok-write_all-in-Ok g c = (
  Ok c.in-Ok.text.items,
  (c.in-Ok.ensures.fine, c.in-Ok.ensures.text),
  refl,
  rw c.deref.ensures.value at c.in_ok-write_all-in-Ok.ensures.bytes,
)
