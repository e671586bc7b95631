-- A confirmed input is held, so its player entered it, or it is past a cut that player 1 has too; for c8_audit.
use Rattle.c8_world.proofs.Reached.{inputs_entered}
use Rattle.c8_world.proofs.laws.confirmed_inputs_were_entered.Goals as goal

pub returns : goal.returns
returns c = inputs_entered c.peers_are_lawful.ensures
