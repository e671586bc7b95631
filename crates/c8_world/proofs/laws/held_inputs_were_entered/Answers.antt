-- Whoever passed inputs on, what a peer holds of a player begins what that player entered.
use Rattle.c8_world.proofs.Reached.{begins_own}
use Rattle.c8_world.proofs.laws.held_inputs_were_entered.Goals as goal

pub returns : goal.returns
returns c = begins_own c.peers_are_lawful.ensures
