-- A key counts in every frame while it is down, in none once released, and in one if no frame saw it.
use Rattle.c8_terminal.proofs.StrokeLemmas.{down_is_held, up_is_not_held, tap_is_held}
use Rattle.c8_terminal.proofs.laws.a_key_is_held_while_it_is_down.Goals as goal

pub returns-clause-down : goal.returns-clause-down
returns-clause-down c = down_is_held

pub returns-clause-up : goal.returns-clause-up
returns-clause-up c = up_is_not_held

pub returns-clause-tap : goal.returns-clause-tap
returns-clause-tap c = tap_is_held
